-- An error for which bytes are refused as a box tree is a fault of theirs.
use Rattle.std.proofs.Common.{◌≡◌, sym, ◌∙◌, ap, ◌⊎◌, inl, inr, List, ℕ, Some}
use Rattle.c2_spec.specs.Jumbf.Faults.{JumbfFault}
use Rattle.c2_spec.specs.Reason.{boxes_refusal}
use Rattle.c2_spec.specs.declared.jumbf.JumbfError.{JumbfError}
use Rattle.c2_spec.specs.declared.jumbf.JumbfError.TheVariants as boxes
use Rattle.c2_spec.specs.declared.reason.Refusal.{Refusal}

-- an error that refuses something is not that memory ran out
pub faulty : (bytes : List ℕ) (e : JumbfError) (r : Refusal) → boxes_refusal e ≡ Some r
    → (e ≡ boxes.NoMemory) ⊎ JumbfFault bytes e → JumbfFault bytes e
faulty bytes e r refuses (inl memory) = absurd (let both = sym refuses ∙ ap boxes_refusal memory in cc (both))
faulty bytes e r refuses (inr fault) = fault
