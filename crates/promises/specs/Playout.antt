-- The three calls of the playout host, each told as `OneAnswer` says.
use Rattle.std.specs.Prelude.{ℕ, ◌≡◌, List}
use Rattle.std.specs.Borrow.{Bor, MutBor}
use Rattle.crc32.specs.Crc.{crc_of}
use Rattle.utf8.specs.Utf8.{is_utf8}
use Rattle.meaning.specs.Calls.{delete_count, delete_output}
use Rattle.playout.proofs.lambspool_crc32.Reads as HostCrcCall
use Rattle.playout.proofs.lambspool_is_utf8.Reads as HostUtf8Call
use Rattle.playout.proofs.lambspool_delete_frame.Reads as HostDeleteCall
use Rattle.promises.specs.OneAnswer.{OneEach, Gives}

-- lambspool_delete_frame(sequence, id, out)
pub record HostDeleteMeets (sequence id : ℕ) (out : List ℕ) (r : ℕ) (after : List ℕ) : Type 0 where
  pub result_is : r ≡ delete_count sequence out
  pub output_is : after ≡ delete_output sequence id out

pub record PlayoutCalls : Type 0 where
  -- lambspool_crc32(bytes)
  pub host_crc_one_answer : (κs : _) (bytes : Bor (List ℕ)) → Gives (crc_of bytes.now) (λ r. HostCrcCall.Learnt κs (bytes, tt) r (bytes, tt))
  -- lambspool_is_utf8(bytes)
  pub host_utf8_one_answer : (κs : _) (bytes : Bor (List ℕ)) → Gives (is_utf8 bytes.now) (λ r. HostUtf8Call.Learnt κs (bytes, tt) r (bytes, tt))
  pub host_delete_contract : (κs : _) (sequence id : ℕ) (out : MutBor (List ℕ)) (r : ℕ) (after : MutBor (List ℕ))
      → HostDeleteCall.Learnt κs (sequence, (id, (out, tt))) r (sequence, (id, (after, tt))) → HostDeleteMeets sequence id out.now r after.now
  pub host_delete_one_answer : (sequence id : ℕ) (out : List ℕ) → OneEach (HostDeleteMeets sequence id out)
