-- A snapshot as it is written: version 2.
use Rattle.std.specs.Prelude.{ℕ, Bool, true, false, List, [], ◌∷◌, ◌++◌, length}
use Rattle.crc32.specs.Crc.{crc_of}
use Rattle.fields.specs.Fields.{bytes}
use Rattle.config.specs.Settings.{metric_number, ef_of}
use Rattle.config.specs.declared.Config.{Config}
use Rattle.layout.specs.Layout.{magic}
use Rattle.meaning.specs.Records.{Record}

abbrev pub flag_of : Bool → ℕ
flag_of true = 1
flag_of false = 0

-- ID, flag, coordinates, caption length, caption
abbrev pub record_bytes : Record → List ℕ
record_bytes r = bytes 8 r.id ++ (bytes 1 (flag_of r.deleted) ++ (r.vector ++ (bytes 4 (length r.caption) ++ r.caption)))

-- records in node order
unfoldable pub records_bytes : List Record → List ℕ
records_bytes [] = []
records_bytes (r ∷ rs) = record_bytes r ++ records_bytes rs

-- magic, version 2, d, M, ef, metric, seed, sequence, count
unfoldable pub header_bytes : Config → ℕ → ℕ → List ℕ
header_bytes c sequence count =
    magic
    ++ (bytes 4 2
    ++ (bytes 4 c.dimensions
    ++ (bytes 4 c.m
    ++ (bytes 4 (ef_of c)
    ++ (bytes 4 (metric_number c.metric) ++ (bytes 8 c.seed ++ (bytes 8 sequence ++ bytes 8 count)))))))

abbrev pub body_bytes : Config → ℕ → List Record → List ℕ
body_bytes c sequence records = header_bytes c sequence (length records) ++ records_bytes records

-- the body, then its CRC
unfoldable pub file_of : Config → ℕ → List Record → List ℕ
file_of c sequence records = body_bytes c sequence records ++ bytes 4 (crc_of (body_bytes c sequence records))
