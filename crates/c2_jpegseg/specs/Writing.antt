-- What a call that appends bytes has done to a sink, as one fact, for private clauses.
use Rattle.std.specs.Prelude.{◌≡◌, ℕ, ◌+◌, Bool, List, ◌++◌, length, Option, Result, OnOk}
use Rattle.std.specs.Int.{w16, w32, to_be_bytes}
use Rattle.c2_base.specs.Causes.{HasCause}
use Rattle.c2_base.specs.Sink.{Appends, Spends, TakesPrefix, OkWithinSpare}
use Rattle.c2_spec.specs.declared.markers.TheConstants.{APP11, BOX_IDENTIFIER}
use Rattle.c2_spec.specs.Jpeg.Segments.{marker_bytes}

-- These bytes were appended, or a prefix of them and the sink failed; within the stated spare it didn't.
pub record IsWriting {K T E : Type 0} (written : K → Option (List ℕ)) (spare : K → Option ℕ) (finished : K → Bool) (faults : K → ℕ) (bytes : List ℕ) (old new : K) (result : Result T E) : Type 0 where
  pub all : OnOk result (Appends (written old) (written new) bytes)
  pub less : OnOk result (Spends (spare old) (spare new) (length bytes))
  pub prefix : TakesPrefix written spare bytes old new
  pub unfinished : finished new ≡ finished old
  pub cause : HasCause (faults old) (faults new) result
  pub within : OkWithinSpare (spare old) (length bytes) result

-- what a packet with so many bytes of body has before its box header
abbrev pub packet_head : ℕ → ℕ → ℕ → List ℕ
packet_head en z len = marker_bytes 0 APP11 ++ (to_be_bytes w16 (len + 18) ++ (to_be_bytes w16 BOX_IDENTIFIER ++ (to_be_bytes w16 en ++ to_be_bytes w32 z)))
