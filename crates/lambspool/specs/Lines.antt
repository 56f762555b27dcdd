-- What the entries for a listing's lines are asked: the numbers of the first line, and of a refusal its source, number and place.
use Rattle.std.specs.Prelude.{ℕ, cond, List, ◌++◌, eqb}
use Rattle.listing_text.specs.Lines.{ascii, newline, named}
use Rattle.listing_text.specs.declared.Heading.{Heading}

abbrev pub heading : ℕ → ℕ → ℕ → ℕ → ℕ → ℕ → ℕ → Heading
heading sequence records active replayed skipped keep tail =
    record {
      sequence = sequence;
      records = records;
      active = active;
      replayed = replayed;
      skipped = skipped;
      keep = keep;
      tail = tail;
    }

-- source 0 is the snapshot, 1 the log, and any other a file; the numbers are written as they are handed in
abbrev pub refusal_text : ℕ → ℕ → ℕ → List ℕ
refusal_text source number at =
    cond (eqb source 0) (named (ascii "refused snapshot ") number ++ newline)
    (cond (eqb source 1) (named (ascii "refused log ") number ++ (named (ascii " at ") at ++ newline))
    (named (ascii "refused file ") number ++ newline))
