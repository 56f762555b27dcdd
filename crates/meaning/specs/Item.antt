-- What snapshots and logs have in common: good coordinates, and a record's coordinates with its caption.
use Rattle.std.specs.Prelude.{ℕ, ◌+◌, ◌*◌, not, List, ltb, Ok}
use Rattle.refusal.specs.Refusal.{Answer, ◌>>=◌, refuse}
use Rattle.refusal.specs.declared.Refusal.{Refusal}
use Rattle.refusal.specs.declared.Refusal.TheVariants.{PastTheEnd, CaptionTooLong, NotUtf8}
use Rattle.utf8.specs.Utf8.{is_utf8}
use Rattle.coordinates.specs.Coordinates.{coordinates_of}
use Rattle.fields.specs.Fields.{part, num}
use Rattle.config.specs.Settings.{is_cosine, caption_limit}
use Rattle.config.specs.declared.Config.{Config}

-- 12 before 13; 13 where the metric is cosine and every coordinate is +0 or -0
unfoldable pub coordinates : Config → List ℕ → Answer (Unit {0})
coordinates c vector = coordinates_of (is_cosine c.metric) c.dimensions vector

-- a caption whose length stands at `at`, before `end`; the answer is its length
unfoldable pub caption_at : Config → List ℕ → ℕ → ℕ → Answer ℕ
caption_at c s end at = do
  _ ← refuse PastTheEnd (ltb end (at + 4))
  _ ← refuse CaptionTooLong (ltb (caption_limit c) (num s at 4))
  _ ← refuse PastTheEnd (ltb end (at + 4 + num s at 4))
  _ ← refuse NotUtf8 (not (is_utf8 (part s (at + 4) (num s at 4))))
  Ok (num s at 4)

-- A record's coordinates from `at`, its caption's length and its caption, all before `end`; the answer is the caption's length.
-- A vector past the end is 11 in a snapshot and 4 in a log, hence `short`.
unfoldable pub item_at : Refusal → Config → List ℕ → ℕ → ℕ → Answer ℕ
item_at short c s end at = do
  _ ← refuse short (ltb end (at + 4 * c.dimensions))
  _ ← coordinates c (part s at (4 * c.dimensions))
  caption_at c s end (at + 4 * c.dimensions)
