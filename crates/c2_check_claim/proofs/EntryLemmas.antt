-- The entries of a manifest, place by place.
use Rattle.std.proofs.Common.{◌≡◌, ℕ, ◌+◌, drop, List, Some, None, slice_get, sym}
use Rattle.std.proofs.lemmas.Option.{slice_get_within, get_or_from_slice_get}
use Rattle.c2_spec.specs.declared.cbor.Ref.{Ref}
use Rattle.c2_rules.specs.Tests.{Test, each, first_failing}
use Rattle.c2_rules.specs.declared.answer.Failing.{Failing}
use Rattle.c2_rules.proofs.TestLemmas.{each_found, each_passed}

-- where all entries before this one pass, what fails first of this entry fails first of all entries
pub entry_found : (tests : ℕ → Ref → List Test) (xs : List Ref) (i : ℕ) (x : Ref) (f : Failing)
    → slice_get xs i ≡ Some x → first_failing (each tests 0 xs) ≡ first_failing (each tests i (drop i xs))
    → Some f ≡ first_failing (tests i x) → Some f ≡ first_failing (each tests 0 xs)
entry_found tests xs i x f at so_far h =
    each_found tests xs i x f (slice_get_within xs i x at) (sym (get_or_from_slice_get xs i x x at)) so_far h

-- where this entry passes too, what fails first of all entries fails first of those after it
pub entry_passed : (tests : ℕ → Ref → List Test) (xs : List Ref) (i : ℕ) (x : Ref) → slice_get xs i ≡ Some x
    → first_failing (each tests 0 xs) ≡ first_failing (each tests i (drop i xs)) → None ≡ first_failing (tests i x)
    → first_failing (each tests 0 xs) ≡ first_failing (each tests (i + 1) (drop (i + 1) xs))
entry_passed tests xs i x at so_far h =
    each_passed tests xs i x (slice_get_within xs i x at) (sym (get_or_from_slice_get xs i x x at)) so_far h
