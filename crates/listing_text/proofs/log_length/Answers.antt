-- `log_length` adds up the words and the digits.
use native.Mathlib.Omega.{arith}
use Rattle.listing_text.proofs.LineLaws.{length_log}
use Rattle.listing_text.proofs.log_length.Goals as goal

pub returns : goal.returns
returns c = let l = length_log c.args.h in
    record {
      value = omega (arith, l);
      upper_bound = omega arith;
    }
