-- What the code's parts speak of: one operation as it is written, and a request whose operations are accepted.
use Rattle.std.specs.Prelude.{ℕ, suc, ◌+◌, ◌*◌, ◌≤◌, ◌≡◌, Bool, true, cond, List, [], length, take, get_or, Ok, Err}
use Rattle.utf8.specs.Utf8.{is_utf8}
use Rattle.config.specs.Limits.{max_dimensions, max_metadata}
use Rattle.config.specs.declared.Config.{Config}
use Rattle.layout.specs.Layout.{item_length, record_length, id_length, sequence_length, batch_head}
use Rattle.layout.specs.declared.Shape.{Shape}
use Rattle.layout.specs.declared.Shape.TheVariants.{Single, Batch}
use Rattle.fields.specs.Fields.{part, bytes}
use Rattle.rows.specs.declared.Operation.{Operation}
use Rattle.refusal.specs.Refusal.{Answer}
use Rattle.refusal.specs.declared.Refusal.TheVariants.{NotUtf8}
use Rattle.meaning.specs.Encoder.{Asked, asked, put_count, Tagged, put_fields, encode_all}

-- the operation at place k of a request's words
abbrev pub asked_at : List ℕ → ℕ → Asked
asked_at words k = record { id = get_or words (2 * k) 0; word = get_or words (2 * k + 1) 0 }

-- ---- one operation
-- a put takes n, which are d coordinates, or one of a count of puts; a delete takes none
abbrev pub taken : Bool → ℕ → ℕ
taken put n = cond put n 0

-- 1 is a put, 2 a delete
abbrev pub tag_of : Bool → ℕ
tag_of put = cond put 1 2

abbrev pub fields_of : ℕ → List ℕ → List ℕ → Operation → List ℕ
fields_of d coords captions o =
    cond o.put (put_fields o.id.0 (take d coords) o.caption_length (part captions o.at o.caption_length)) (bytes id_length o.id.0)

-- its tag and its fields
abbrev pub tagged_length : Tagged → ℕ
tagged_length e = suc (length e.fields)

-- the most bytes that it has: a put's, of the longest vector with the longest caption
abbrev pub most_tagged : ℕ
most_tagged = 1 + id_length + item_length max_dimensions max_metadata

-- a put of d coordinates with this caption, once nothing else is left to refuse
abbrev pub caption_told : ℕ → List ℕ → Answer ℕ
caption_told d caption = cond (is_utf8 caption) (Ok (record_length d (length caption))) (Err NotUtf8)

-- what the writer of a put is handed: d coordinates, and a caption in its buffer that is not too long
pub record PutFits (d : ℕ) (coords captions : List ℕ) (o : Operation) : Type 0 where
  pub vector : d ≤ length coords
  pub short : o.caption_length ≤ max_metadata
  pub inside : o.at + o.caption_length ≤ length captions

abbrev pub Fits : ℕ → List ℕ → List ℕ → Operation → Type 0
Fits d coords captions o = o.put ≡ true → PutFits d coords captions o

-- ---- a request
-- what a payload has beside its tagged operations: opcode, sequence and count, or in a single frame the sequence
abbrev pub head_length : Shape → ℕ
head_length Single = sequence_length
head_length Batch = batch_head

abbrev pub tagged_in : Answer (List Tagged) → List Tagged
tagged_in (Ok es) = es
tagged_in (Err why) = []

-- the operations of a request that is accepted
abbrev pub tagged_of : Config → List ℕ → List ℕ → List ℕ → List Tagged
tagged_of c words coords captions = tagged_in (encode_all c coords captions (asked words))

pub record Accepted (c : Config) (words coords captions : List ℕ) : Type 0 where
  pub few : c.dimensions ≤ max_dimensions
  pub enough : length coords ≡ c.dimensions * put_count (asked words)
  pub tagged_is : encode_all c coords captions (asked words) ≡ Ok (tagged_of c words coords captions)
