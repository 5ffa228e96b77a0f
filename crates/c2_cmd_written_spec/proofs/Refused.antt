-- What inputs come to is what they come to where each refusal is told by its error.
use Rattle.std.proofs.Common.{◌≡◌, refl, sym, ap, ◌∙◌, subst, ℕ, List}
use Rattle.std.specs.declared.result.Result.{Result}
use Rattle.std.specs.declared.result.Result.TheVariants.{Err}
use Rattle.c2_build_refusals.specs.Kinds.{WithoutFault}
use Rattle.c2_build_refusals.specs.declared.error.BuildError.{BuildError}
use Rattle.c2_build_refusals.proofs.Outside.{outside_map}
use Rattle.c2_cmd_written_spec.specs.Refused.{with_error}
use Rattle.c2_cmd_written_spec.proofs.Builds.{WritesNew, new_bytes}

-- results with the same error are the same
same_err : {A : Type 0} (e f : BuildError) → e ≡ f → ◌≡◌ {A = Result A BuildError} (Err e) (Err f)
same_err {A} e f is = subst (λ (x : BuildError). ◌≡◌ {A = Result A BuildError} (Err e) (Err x)) is refl

module _ {A R : Type 0} (error_of : R → BuildError) (Is : Result A R → Type 0) where
  -- inputs come to this, where each refusal is told by its error
  abbrev pub ComesWith : Result A BuildError → Type 0
  ComesWith s = (r : Result A R) × Is r × (s ≡ with_error error_of r)

  -- inputs come to an error that says what is refused
  pub refused_comes : (e : BuildError) → WithoutFault e ((refusal : R) × Is (Err refusal) × (e ≡ error_of refusal))
      → WithoutFault e (ComesWith (Err e))
  refused_comes e h =
      outside_map e {P = (refusal : R) × Is (Err refusal) × (e ≡ error_of refusal)} {Q = ComesWith (Err e)}
      (λ found. (Err found.0, found.1, same_err e (error_of found.0) found.2)) h

  -- inputs that come to one thing come to one with its error
  pub one_with : ((a b : Result A R) → Is a → Is b → a ≡ b) → (x y : Result A BuildError) → ComesWith x → ComesWith y
      → x ≡ y
  one_with one x y h k = h.2 ∙ ap (with_error error_of) (one h.0 k.0 h.1 k.1) ∙ sym k.2

-- ---- a new file

module _ {N R : Type 0} (error_of : R → BuildError) (bytes : N → List ℕ) (Is : Result N R → Type 0)
    (file_of : Result N R → List ℕ) (same : (r : Result N R) → file_of r ≡ new_bytes bytes (with_error error_of r)) where
  -- the bytes that are written where the inputs come to something are those of what they come to with its error
  pub writes_new : (text : List ℕ) → (r : Result N R) × Is r × (text ≡ file_of r)
      → WritesNew bytes (ComesWith error_of Is) text
  writes_new text h = (with_error error_of h.0, (h.0, h.1, refl), h.2 ∙ same h.0)

  -- the bytes of what the inputs come to with its error are written where they come to something
  pub new_writes : (text : List ℕ) → WritesNew bytes (ComesWith error_of Is) text
      → (r : Result N R) × Is r × (text ≡ file_of r)
  new_writes text h = (h.1.0, h.1.1, h.2 ∙ ap (new_bytes bytes) h.1.2 ∙ sym (same h.1.0))
