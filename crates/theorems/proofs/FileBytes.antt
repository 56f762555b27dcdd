-- A written file is of bytes.
use Prim.Native.Nat.{ℕ, ◌<◌}
use native.Mathlib.Omega.{arith}
use mathlib.Core.List.{List, [], ◌∷◌}
use lib.ListN.{length}
use Rattle.crc32.specs.Crc.{crc_of}
use Rattle.fields.specs.Fields.{Bytes, bytes}
use Rattle.fields.proofs.Numbers.{Bytes-nil, Bytes-cons, Bytes-append, Bytes-bytes}
use Rattle.config.specs.Settings.{metric_number, ef_of}
use Rattle.config.specs.declared.Config.{Config}
use Rattle.layout.specs.Layout.{magic}
use Rattle.meaning.specs.Every.{Every}
use Rattle.meaning.specs.Records.{Record}
use Rattle.meaning.specs.File.{flag_of, record_bytes, records_bytes, header_bytes, body_bytes, file_of}
use Rattle.theorems.specs.Storable.{Fit}

record_bytes_lem : (c : Config) (r : Record) → Fit c r → Bytes (record_bytes r)
record_bytes_lem c r f =
    Bytes-append (bytes 8 r.id) _ (Bytes-bytes 8 r.id)
    (Bytes-append (bytes 1 (flag_of r.deleted)) _ (Bytes-bytes 1 (flag_of r.deleted))
    (Bytes-append r.vector _ f.vector_bytes (Bytes-append (bytes 4 (length r.caption)) r.caption (Bytes-bytes 4 (length r.caption)) f.caption_bytes)))

records_bytes_lem : (c : Config) (rs : List Record) → Every (Fit c) rs → Bytes (records_bytes rs)
unfolding records_bytes
records_bytes_lem c [] all = Bytes-nil
records_bytes_lem c (r ∷ rs) all = Bytes-append (record_bytes r) (records_bytes rs) (record_bytes_lem c r all.0) (records_bytes_lem c rs all.1)

magic_bytes : Bytes magic
magic_bytes = go 86 (omega arith) (go 69 (omega arith) (go 67 (omega arith) (go 84 (omega arith) (go 79 (omega arith) (go 82 (omega arith) (go 83 (omega arith) (go 49 (omega arith) Bytes-nil)))))))
  where
    go : (b : ℕ) {s : List ℕ} → b < 256 → Bytes s → Bytes (b ∷ s)
    go b {s} = Bytes-cons b s

header_bytes_lem : (c : Config) (sequence count : ℕ) → Bytes (header_bytes c sequence count)
unfolding header_bytes
header_bytes_lem c sequence count =
    Bytes-append magic _ magic_bytes
    (Bytes-append (bytes 4 2) _ (Bytes-bytes 4 2)
    (Bytes-append (bytes 4 c.dimensions) _ (Bytes-bytes 4 c.dimensions)
    (Bytes-append (bytes 4 c.m) _ (Bytes-bytes 4 c.m)
    (Bytes-append (bytes 4 (ef_of c)) _ (Bytes-bytes 4 (ef_of c))
    (Bytes-append (bytes 4 (metric_number c.metric)) _ (Bytes-bytes 4 (metric_number c.metric))
    (Bytes-append (bytes 8 c.seed) _ (Bytes-bytes 8 c.seed) (Bytes-append (bytes 8 sequence) (bytes 8 count) (Bytes-bytes 8 sequence) (Bytes-bytes 8 count))))))))

pub file_bytes : (c : Config) (sequence : ℕ) (rs : List Record) → Every (Fit c) rs → Bytes (file_of c sequence rs)
unfolding file_of
file_bytes c sequence rs all =
    Bytes-append (body_bytes c sequence rs) (bytes 4 (crc_of (body_bytes c sequence rs)))
    (Bytes-append (header_bytes c sequence (length rs)) (records_bytes rs) (header_bytes_lem c sequence (length rs)) (records_bytes_lem c rs all))
    (Bytes-bytes 4 (crc_of (body_bytes c sequence rs)))
