-- A frame of operations by value, wherever it stands in a log: it is found, and its rows show the same operations.
use Rattle.std.specs.Prelude.{Ok}
use Prim.Native.Nat.{ℕ, ◌+◌, ◌≤◌, ◌<◌, ◌^◌}
use mathlib.Core.Path.{◌≡◌, refl, sym, ap, subst, ◌∙◌}
use mathlib.Core.List.{List, [], ◌∷◌, ◌++◌, append_assoc, map}
use native.Mathlib.Omega.{arith}
use lib.Dec.{lit<}
use lib.ListN.{length, drop, length-append, length-map}
use Rattle.crc32.specs.Crc.{crc_of}
use Rattle.fields.specs.Fields.{part, num, bytes, Bytes}
use Rattle.fields.proofs.Numbers.{length_bytes, Bytes-nil, Bytes-cons, Bytes-append, Bytes-bytes}
use Rattle.config.specs.Limits.{min_frame, max_frame, max_batch_operations}
use Rattle.config.specs.declared.Config.{Config}
use Rattle.layout.specs.Layout.{frame_length}
use Rattle.meaning.specs.Replay.{Operation, put, remove}
use Rattle.meaning.specs.Records.{Record, seen}
use Rattle.meaning.specs.Log.{operations_at, shape_of, operations_of, payload_at, found, length_at, frame_at}
use Rattle.meaning.specs.Encoder.{tagged_bytes, frame_bytes}
use Rattle.layout.specs.declared.Shape.{Shape}
use Rattle.layout.specs.declared.Shape.TheVariants.{Single, Batch}
use Rattle.meaning.specs.Every.{Every}
use Rattle.theorems.specs.FrameRows.{carry_operation, Puts, encoded_of, tag_of, fields_of, logged_at, FromLog, logged_from, payload_of, frame_of, operation_rows, frame_in, CountHolds, Follows}
use Rattle.crc32.proofs.Bytes.{crc_lt}
use Rattle.theorems.proofs.Here.{part_here, after_here, num_here, after_number, room_here}
use Rattle.theorems.proofs.OperationBack.{byte_here, after_byte, Loggable, logged_from_log, fields_low, operation_back, operation_seen, tagged, all_from_log, tagged_low, operations_back, operations_seen}
use Rattle.meaning.proofs.FrameRead.{frame_reads, operations_read}
use Rattle.meaning.proofs.Lengths.{length_frame}
use Rattle.theorems.proofs.Operations.{batch_reads, single_reads, order_reads, payload_reads, length_reads}

-- the parts of a frame that stands at `at`, before `rest`
pub record FrameParts (log : List ℕ) (at : ℕ) (payload rest : List ℕ) : Type 0 where
  pub length_is : num log at 4 ≡ length payload
  pub length_crc : crc_of (part log at 4) ≡ num log (at + 4) 4
  pub payload_here : drop (at + 8) log ≡ payload ++ (bytes 4 (crc_of payload) ++ rest)
  pub payload_crc : crc_of (part log (at + 8) (length payload)) ≡ num log (at + 8 + length payload) 4
  pub inside : at + frame_length (length payload) ≤ length log

pub frame_parts : (log : List ℕ) (at : ℕ) (payload rest : List ℕ) → drop at log ≡ frame_bytes payload ++ rest → length payload < 256 ^ 4
    → FrameParts log at payload rest
unfolding frame_bytes
frame_parts log at payload rest h small =
    let n = length payload in
    let crc1 = crc_of (bytes 4 n) in
    let crc2 = crc_of payload in
    let small1 : crc1 < 256 ^ 4 = omega (arith, crc_lt (bytes 4 n)) in
    let small2 : crc2 < 256 ^ 4 = omega (arith, crc_lt payload) in
    let h0 : drop at log ≡ bytes 4 n ++ (bytes 4 crc1 ++ (payload ++ (bytes 4 crc2 ++ rest))) = h ∙ simp append_assoc in
    let h1 = after_number log at 4 n _ h0 in
    let h2' = after_number log (at + 4) 4 crc1 _ h1 in
    let e2 : at + 4 + 4 ≡ at + 8 = omega arith in
    let h2 : drop (at + 8) log ≡ payload ++ (bytes 4 crc2 ++ rest) = subst (λ (x : ℕ). drop x log ≡ payload ++ (bytes 4 crc2 ++ rest)) e2 h2' in
    let h3 = after_here log (at + 8) n payload _ h2 refl in
    let l = length_frame payload in
    let room = room_here log at (frame_bytes payload) rest h (omega arith) in
    record {
      length_is = num_here log at 4 n _ h0 small;
      length_crc = ap crc_of (part_here log at 4 (bytes 4 n) _ h0 (length_bytes 4 n)) ∙ sym (num_here log (at + 4) 4 crc1 _ h1 small1);
      payload_here = h2;
      payload_crc = ap crc_of (part_here log (at + 8) n payload _ h2 refl) ∙ sym (num_here log (at + 8 + n) 4 crc2 rest h3 small2);
      inside = omega arith;
    }

-- ---- a frame of operations
-- a payload: opcode, sequence, body
abbrev pub opcode_of : Shape → List (Operation Record) → ℕ
opcode_of Single [] = 0
opcode_of Single (o ∷ os) = tag_of o
opcode_of Batch os = 3

abbrev pub behind_sequence : Shape → List (Operation Record) → List ℕ
behind_sequence Single [] = []
behind_sequence Single (o ∷ os) = fields_of o
behind_sequence Batch os = bytes 4 (length os) ++ tagged os

pub payload_is : (shape : Shape) (sequence : ℕ) (os : List (Operation Record)) → CountHolds shape (length os)
    → payload_of shape sequence os ≡ opcode_of shape os ∷ (bytes 8 sequence ++ behind_sequence shape os)
payload_is Single sequence [] k = absurd (omega arith)
payload_is Single sequence (o ∷ os) k = refl
payload_is Batch sequence os k = ap (λ (n : ℕ). 3 ∷ (bytes 8 sequence ++ (bytes 4 n ++ tagged os))) (length-map os encoded_of)

body_low : (shape : Shape) (os : List (Operation Record)) → CountHolds shape (length os) → 8 ≤ length (behind_sequence shape os)
body_low Single [] k = absurd (omega arith)
body_low Single (o ∷ os) k = fields_low o
body_low Batch os k =
    let some : 1 ≤ length os = k.0 in
    omega (arith, length-append (bytes 4 (length os)) (tagged os), length_bytes 4 (length os), tagged_low os)

pub length_payload_of : (shape : Shape) (sequence : ℕ) (os : List (Operation Record)) → CountHolds shape (length os)
    → length (payload_of shape sequence os) ≡ 9 + length (behind_sequence shape os)
length_payload_of shape sequence os k =
    ap length (payload_is shape sequence os k) ∙ omega (arith, length-append (bytes 8 sequence) (behind_sequence shape os), length_bytes 8 sequence)

pub payload_low : (shape : Shape) (sequence : ℕ) (os : List (Operation Record)) → CountHolds shape (length os) → min_frame ≤ length (payload_of shape sequence os)
payload_low shape sequence os k = omega (arith, length_payload_of shape sequence os k, body_low shape os k)

-- a reader accepts the frame
pub record Framed (c : Config) (shape : Shape) (sequence : ℕ) (os : List (Operation Record)) : Type 0 where
  pub positive : 0 < sequence
  pub sequence_fits : sequence < 256 ^ 8
  pub count : CountHolds shape (length os)
  pub loggable : Every (Loggable c) os
  pub short : length (payload_of shape sequence os) ≤ max_frame

pub operations_from_log : (shape : Shape) (at : ℕ) (os : List (Operation Record)) → Every (Puts FromLog) (operation_rows shape at os)
operations_from_log Single at [] = tt
operations_from_log Single at (o ∷ os) = (logged_from_log (at + 17) o, operations_from_log Single at os)
operations_from_log Batch at os = all_from_log (at + 21) os

pub next_follows : (previous : ℕ) → Follows previous (previous + 1)
next_follows previous h = refl

-- ---- the body
tag_shape : (o : Operation Record) → shape_of (tag_of o) ≡ Single
tag_shape (put r) = refl
tag_shape (remove id) = refl

pub opcode_shape : (shape : Shape) (os : List (Operation Record)) → shape_of (opcode_of shape os) ≡ shape
opcode_shape Single [] = refl
opcode_shape Single (o ∷ os) = tag_shape o
opcode_shape Batch os = refl

body_back : (shape : Shape) (c : Config) (log : List ℕ) (end at : ℕ) (os : List (Operation Record)) (rest : List ℕ)
    → drop (at + 17) log ≡ behind_sequence shape os ++ rest → end ≡ at + 17 + length (behind_sequence shape os) → CountHolds shape (length os) → Every (Loggable c) os
    → operations_of shape c log end (opcode_of shape os) (at + 17)
    ≡ Ok (record { operations = operation_rows shape at os; next = end })
body_back Single c log end at [] rest h e n k = absurd (omega arith)
body_back Single c log end at (o ∷ []) rest h e n k =
    single_reads c log end (tag_of o) (at + 17) (record { operations = logged_at (at + 17) o ∷ []; next = end }) (record {
      this = record { operation = logged_at (at + 17) o; next = at + 17 + length (fields_of o) };
      this_read = operation_back c log end (at + 17) o rest h (omega arith) k.0;
      all_is = ap (λ (x : ℕ). record { operations = logged_at (at + 17) o ∷ []; next = x }) e;
    })
body_back Single c log end at (o ∷ p ∷ os) rest h e n k = absurd (omega arith)
body_back Batch c log end at os rest h e n k =
    let m = length os in
    let some : 1 ≤ m = n.0 in
    let most : m ≤ max_batch_operations = n.1 in
    let h0 : drop (at + 17) log ≡ bytes 4 m ++ (tagged os ++ rest) = h ∙ append_assoc (bytes 4 m) (tagged os) rest in
    let fits : m < 256 ^ 4 = omega arith in
    let count_is : num log (at + 17) 4 ≡ m = num_here log (at + 17) 4 m _ h0 fits in
    let h1 = after_number log (at + 17) 4 m _ h0 in
    let l = length-append (bytes 4 m) (tagged os) in
    let l4 = length_bytes 4 m in
    let low = tagged_low os in
    let room : at + 17 + 4 + length (tagged os) ≤ end = omega arith in
    let e21 : at + 17 + 4 ≡ at + 21 = omega arith in
    let next_is : at + 17 + 4 + length (tagged os) ≡ end = omega arith in
    batch_reads c log end (at + 17) (record { operations = logged_from (at + 21) os; next = end }) (record {
      some = omega arith;
      most = omega arith;
      fits = omega arith;
      operations_here =
          ap (λ (x : ℕ). operations_at x c log end (at + 17 + 4)) count_is
          ∙ operations_back c log end (at + 17 + 4) os rest h1 room k
          ∙ (λ i. Ok (record { operations = logged_from (e21 i) os; next = next_is i }));
    })

body_seen : (shape : Shape) (c : Config) (snapshot log : List ℕ) (at : ℕ) (os : List (Operation Record)) (rest : List ℕ)
    → drop (at + 17) log ≡ behind_sequence shape os ++ rest → CountHolds shape (length os) → Every (Loggable c) os
    → map (carry_operation (seen c.dimensions snapshot log)) (operation_rows shape at os) ≡ os
body_seen Single c snapshot log at [] rest h n k = refl
body_seen Single c snapshot log at (o ∷ []) rest h n k = ap (λ (x : Operation Record). x ∷ []) (operation_seen c snapshot log (at + 17) o rest h k.0)
body_seen Single c snapshot log at (o ∷ p ∷ os) rest h n k = absurd (omega arith)
body_seen Batch c snapshot log at os rest h n k =
    let m = length os in
    let h0 : drop (at + 17) log ≡ bytes 4 m ++ (tagged os ++ rest) = h ∙ append_assoc (bytes 4 m) (tagged os) rest in
    let h1 = after_number log (at + 17) 4 m _ h0 in
    let e21 : at + 17 + 4 ≡ at + 21 = omega arith in
    operations_seen c snapshot log (at + 21) os rest (subst (λ (x : ℕ). drop x log ≡ tagged os ++ rest) e21 h1) k

-- ---- the frame
-- opcode, sequence and body of a payload whose frame stands at `at`
record PayloadStands (shape : Shape) (sequence : ℕ) (log : List ℕ) (at : ℕ) (os : List (Operation Record)) (rest : List ℕ) : Type 0 where
  opcode_is : num log (at + 8) 1 ≡ opcode_of shape os
  sequence_is : num log (at + 9) 8 ≡ sequence
  body_here : drop (at + 17) log ≡ behind_sequence shape os ++ rest

payload_stands : (shape : Shape) (sequence : ℕ) (log : List ℕ) (at : ℕ) (os : List (Operation Record)) (rest : List ℕ)
    → drop (at + 8) log ≡ payload_of shape sequence os ++ rest → CountHolds shape (length os) → sequence < 256 ^ 8 → PayloadStands shape sequence log at os rest
payload_stands shape sequence log at os rest h n small =
    let b = behind_sequence shape os in
    let h0 : drop (at + 8) log ≡ opcode_of shape os ∷ (bytes 8 sequence ++ (b ++ rest)) =
    h ∙ ap (λ (l : List ℕ). l ++ rest) (payload_is shape sequence os n) ∙ ap (λ (l : List ℕ). opcode_of shape os ∷ l) (append_assoc (bytes 8 sequence) b rest) in
    let h1' = after_byte log (at + 8) (opcode_of shape os) _ h0 in
    let e1 : at + 8 + 1 ≡ at + 9 = omega arith in
    let h1 : drop (at + 9) log ≡ bytes 8 sequence ++ (b ++ rest) = subst (λ (x : ℕ). drop x log ≡ bytes 8 sequence ++ (b ++ rest)) e1 h1' in
    let h2' = after_number log (at + 9) 8 sequence _ h1 in
    let e2 : at + 9 + 8 ≡ at + 17 = omega arith in
    record {
      opcode_is = byte_here log (at + 8) (opcode_of shape os) _ h0;
      sequence_is = num_here log (at + 9) 8 sequence _ h1 small;
      body_here = subst (λ (x : ℕ). drop x log ≡ b ++ rest) e2 h2';
    }

module _ (shape : Shape) (c : Config) (sequence : ℕ) (os : List (Operation Record)) (k : Framed c shape sequence os) (log : List ℕ) (at : ℕ) (rest : List ℕ) (h : drop at log ≡ frame_of shape sequence os ++ rest) where
  stands : FrameParts log at (payload_of shape sequence os) rest
  stands = let short = k.short in frame_parts log at (payload_of shape sequence os) rest h (omega arith)

  parts : PayloadStands shape sequence log at os (bytes 4 (crc_of (payload_of shape sequence os)) ++ rest)
  parts = payload_stands shape sequence log at os _ stands.payload_here k.count k.sequence_fits

  -- the frame is found, and the next begins behind its last byte
  pub frame_found : (previous : ℕ) → Follows previous sequence
      → frame_at c log previous at ≡ found (frame_in shape sequence at os) (at + length (frame_of shape sequence os))
  frame_found previous follows =
      let payload = payload_of shape sequence os in
      let n = length payload in
      let s = stands in
      let p = parts in
      let low = payload_low shape sequence os k.count in
      let short = k.short in
      let n_is : num log at 4 ≡ n = s.length_is in
      let inside = s.inside in
      let whole = length_frame payload in
      let size_is = length_payload_of shape sequence os k.count in
      let end = at + 8 + n in
      let end_is : end ≡ at + 17 + length (behind_sequence shape os) = omega arith in
      let opcode_is = p.opcode_is in
      let operations_are : operations_read c log end at ≡ Ok (record { operations = operation_rows shape at os; next = end }) =
      ap (λ (x : ℕ). operations_of (shape_of x) c log end x (at + 17)) opcode_is
      ∙ ap (λ (x : Shape). operations_of x c log end (opcode_of shape os) (at + 17)) (opcode_shape shape os)
      ∙ body_back shape c log end at os _ p.body_here end_is k.count k.loggable in
      let order = order_reads previous sequence (record { positive = k.positive; one_more = follows }) in
      let payload_answers : payload_at c log previous at n ≡ Ok (frame_in shape sequence at os) =
      payload_reads c log previous at n (frame_in shape sequence at os) (record {
        crc_good = s.payload_crc;
        in_order = rw p.sequence_is order;
        start_is = refl;
        sequence_is = sym p.sequence_is;
        shape_is = sym (ap shape_of opcode_is ∙ opcode_shape shape os);
        operations_read_lem = operations_are;
      }) in
      let length_answers : length_at log at ≡ Ok n = length_reads log at n (record { length_is = sym n_is; crc_good = s.length_crc; least = low; most = short }) in
      frame_reads c log previous at (frame_in shape sequence at os) (at + length (frame_of shape sequence os)) (record {
        length_answers = length_answers ∙ ap (λ (x : ℕ). Ok x) (sym n_is);
        least = omega arith;
        most = omega arith;
        inside = omega arith;
        next_is = omega arith;
        payload_answers = ap (payload_at c log previous at) n_is ∙ payload_answers;
      })

  -- and through its rows the same operations are seen
  pub frame_seen : (snapshot : List ℕ) → map (carry_operation (seen c.dimensions snapshot log)) (operation_rows shape at os) ≡ os
  frame_seen snapshot = body_seen shape c snapshot log at os _ parts.body_here k.count k.loggable

-- ---- its bytes
-- a record of bytes
abbrev pub InBytes : Record → Type 0
InBytes r = Bytes r.vector × Bytes r.caption

fields_bytes : (o : Operation Record) → Puts InBytes o → Bytes (fields_of o)
fields_bytes (put r) k =
    let n = length r.caption in
    Bytes-append (bytes 8 r.id) (r.vector ++ (bytes 4 n ++ r.caption)) (Bytes-bytes 8 r.id)
    (Bytes-append r.vector (bytes 4 n ++ r.caption) k.0 (Bytes-append (bytes 4 n) r.caption (Bytes-bytes 4 n) k.1))
fields_bytes (remove id) k = Bytes-bytes 8 id

tag_small : (o : Operation Record) → tag_of o < 256
tag_small (put r) = lit< tt
tag_small (remove id) = lit< tt

tagged_bytes_lem : (os : List (Operation Record)) → Every (Puts InBytes) os → Bytes (tagged os)
unfolding tagged_bytes
tagged_bytes_lem [] k = Bytes-nil
tagged_bytes_lem (o ∷ os) k =
    Bytes-append (tag_of o ∷ fields_of o) (tagged os) (Bytes-cons (tag_of o) (fields_of o) (tag_small o) (fields_bytes o k.0)) (tagged_bytes_lem os k.1)

payload_bytes_lem : (shape : Shape) (sequence : ℕ) (os : List (Operation Record)) → Every (Puts InBytes) os → Bytes (payload_of shape sequence os)
payload_bytes_lem Single sequence [] k = Bytes-nil
payload_bytes_lem Single sequence (o ∷ os) k =
    Bytes-cons (tag_of o) (bytes 8 sequence ++ fields_of o) (tag_small o) (Bytes-append (bytes 8 sequence) (fields_of o) (Bytes-bytes 8 sequence) (fields_bytes o k.0))
payload_bytes_lem Batch sequence os k =
    let n = length (map encoded_of os) in
    Bytes-cons 3 (bytes 8 sequence ++ (bytes 4 n ++ tagged os)) (lit< tt)
    (Bytes-append (bytes 8 sequence) (bytes 4 n ++ tagged os) (Bytes-bytes 8 sequence) (Bytes-append (bytes 4 n) (tagged os) (Bytes-bytes 4 n) (tagged_bytes_lem os k)))

pub frame_bytes_lem : (shape : Shape) (sequence : ℕ) (os : List (Operation Record)) → Every (Puts InBytes) os → Bytes (frame_of shape sequence os)
unfolding frame_bytes
frame_bytes_lem shape sequence os k =
    let payload = payload_of shape sequence os in
    let n = bytes 4 (length payload) in
    let crc1 = bytes 4 (crc_of n) in
    let crc2 = bytes 4 (crc_of payload) in
    Bytes-append n (crc1 ++ (payload ++ crc2)) (Bytes-bytes 4 (length payload))
    (Bytes-append crc1 (payload ++ crc2) (Bytes-bytes 4 (crc_of n))
    (Bytes-append payload crc2 (payload_bytes_lem shape sequence os k) (Bytes-bytes 4 (crc_of payload))))
