-- What another file is opened as, by what calls of other crates answered.
use Rattle.c2_opening.proofs.TheLaws.{here_tree}
use Rattle.std.proofs.Common.{◌≡◌, ℕ, List, refl, subst}
use Rattle.c2_base.specs.declared.media.Found.{Found}
use Rattle.c2_spec.specs.Jumbf.Tree.{Tree}
use Rattle.c2_spec.specs.Located.{absent, here, refused}
use Rattle.c2_spec.specs.declared.reason.Reason.{Reason}
use Rattle.c2_spec.specs.declared.store.ManifestBoxes.{ManifestBoxes}
use Rattle.c2_rules.specs.declared.answer.Answer.TheVariants as answer
use Rattle.c2_container.specs.declared.types.Container.{Container}
use Rattle.c2_opening.specs.Opened.{IsOpeningCause, IsFound, IsStoreRead}
use Rattle.c2_opening.specs.declared.error.ValidateError.{ValidateError}
use Rattle.c2_opening.specs.declared.types.Media.{Media}
use Rattle.c2_opening.specs.declared.types.Opened.{Opened}
use Rattle.c2_opening.specs.declared.types.Opened.TheVariants as opened
use Rattle.c2_opening.specs.declared.types.StoreRead.{StoreRead}
use Rattle.c2_opening.specs.declared.types.StoreRead.TheVariants as read
use Rattle.c2_build_refusals.specs.Kinds.{fault_of, kind_of}
use Rattle.c2_build_refusals.specs.declared.error.BuildError.TheVariants.{OtherRefused}
use Rattle.c2_build_refusals.proofs.Outside.{plain_read}
use Rattle.c2_build_base.proofs.Opened.{opening_cause}
use Rattle.c2_build_collect_base.specs.Steps.{IsFoundThere, IsOpeningError, IsOtherCause, IsReadThere, other_effects}

-- a refused file
pub refused_other : (file : List ℕ) (o : Opened) (reason : Reason) (number : ℕ) → o ≡ opened.Refused reason number
    → IsFound file o → IsOpeningError file (OtherRefused (answer.Refused reason number))
refused_other file o reason number is h =
    (answer.Refused reason number, (refused reason number, (subst (IsFound file) is h).located, refl), refl)

-- one without a store
pub absent_other : (file : List ℕ) (o : Opened) (c : Container) → o ≡ opened.NoStore c → IsFound file o
    → IsOpeningError file (OtherRefused answer.NoStore)
absent_other file o c is h = (answer.NoStore, (absent, (subst (IsFound file) is h).located, refl), refl)

-- one whose store is refused
pub refused_there : (file : List ℕ) (m : Media) (r : StoreRead) (reason : Reason) (number : ℕ)
    → r ≡ read.Refused reason number → IsStoreRead m.found r → IsFoundThere file m
    → IsOpeningError file (OtherRefused (answer.Refused reason number))
refused_there file m r reason number is h there =
    let f : Found = m.found in
    (answer.Refused reason number, (here f.start f.length f.store, there.located, (subst (IsStoreRead f) is h).store), refl)

-- one that was found to have a store
pub found_there : (file : List ℕ) (o : Opened) (m : Media) → o ≡ opened.Here m → IsFound file o → IsFoundThere file m
found_there file o m is h = let f = subst (IsFound file) is h in record { container = f.container; located = f.located }

-- a file whose store was found and read is opened as that store
pub read_there : (file : List ℕ) (m : Media) (r : StoreRead) (t : Tree) (s : List ManifestBoxes) → r ≡ read.Here t s
    → IsStoreRead m.found r → IsFoundThere file m
    → IsReadThere file m.container (record { range = record { start = m.found.start; length = m.found.length }; tree = t; store = s })
read_there file m r t s is h there = record {
  container = there.container;
  opened = (here m.found.start m.found.length m.found.store, there.located, here_tree m.found r t s is h);
}

-- the cause of a fault while a container is found
pub found_cause : (m n : ℕ) (e : ValidateError) → IsOpeningCause m n e → IsOtherCause m n (fault_of e)
found_cause m n e h = plain_read other_effects m n (kind_of (fault_of e)) (opening_cause m n e h)
