-- The answer of the check with an external store.
use Rattle.c2_opening.proofs.TheLaws.{one_opening_store}
use Rattle.std.proofs.Common.{◌≡◌, ℕ, ◌<◌, ◌^◌, Bool, true, false, List, [], length, nat_lt, All, Result, Ok, Err, IfOk, ap, ◌∙◌, subst}
use Rattle.std.specs.Bool.{MatchBool}
use Rattle.c2_base.specs.declared.limits.TheConstants.{MAX_STORE_LEN}
use Rattle.c2_base.specs.declared.values.Question.{Question}
use Rattle.c2_spec.specs.C2pa.Manifest.{IsStoreOf}
use Rattle.c2_spec.specs.Jumbf.Tree.{Tree}
use Rattle.c2_spec.specs.Located.{Located, Opening, here, refused}
use Rattle.c2_spec.specs.declared.digest.Alg.{Alg}
use Rattle.c2_spec.specs.declared.panel.Verdict.{Verdict}
use Rattle.c2_spec.specs.declared.reason.Reason.{Reason}
use Rattle.c2_spec.specs.declared.reason.Reason.TheVariants.{StoreTooLarge}
use Rattle.c2_spec.specs.declared.store.ManifestBoxes.{ManifestBoxes}
use Rattle.c2_rules.specs.CheckList.{check_asks}
use Rattle.c2_rules.specs.Opened.{IsManifestStore}
use Rattle.c2_rules.specs.Validated.{OpenedAsks}
use Rattle.c2_rules.specs.declared.answer.Answer.{Answer}
use Rattle.c2_rules.specs.declared.answer.Answer.TheVariants as answer
use Rattle.c2_container.specs.declared.types.Container.{Container}
use Rattle.c2_opening.specs.Opened.{IsFound, IsReadFrom, located_of, tree_of}
use Rattle.c2_opening.specs.declared.types.Media.{Media as MediaFile}
use Rattle.c2_opening.specs.declared.types.Opened.{Opened}
use Rattle.c2_opening.specs.declared.types.Opened.TheVariants as opened
use Rattle.c2_opening.specs.declared.types.StoreRead.{StoreRead}
use Rattle.c2_opening.specs.declared.types.StoreRead.TheVariants as read
use Rattle.c2_validate.proofs.EachCheck.{each_external_answer}
use Rattle.c2_validate.specs.Boxes.{IsStoreAnswered, IsTreeAnswered}
use Rattle.c2_validate.specs.External.{ExternalAsks, IsExternalAnswer, IsAnsweredExternal, IsListAnswered, IsLocatedAnswer, IsStoreAnswer, IsExternalStore, ListAsks, LocatedAsks}
use Rattle.c2_validate.specs.declared.external.External.{External}
use Rattle.c2_validate.specs.declared.external.External.TheVariants.{Of, StoreRefused}

-- ---- a list that was read

-- what a list is opened as is what was read of it
seen : (store : List ℕ) (r : StoreRead) (what : Opening Tree) → nat_lt MAX_STORE_LEN (length store) ≡ false
    → IsReadFrom store r → IsExternalStore store what
    → what ≡ tree_of (record { start = 0; length = 0; store = store }) r
seen store r what small h k =
    let whole : IsManifestStore 0 0 store what =
    subst
    (λ (b : Bool). MatchBool b (what ≡ refused StoreTooLarge (length store)) (IsManifestStore 0 0 store what))
    small k in
    one_opening_store 0 0 store what (tree_of (record { start = 0; length = 0; store = store }) r) whole (h 0 0).store

-- the boxes of its manifests are those of the tree
pub boxes_read : (store : List ℕ) (t : Tree) (b : List ManifestBoxes) → IsReadFrom store (read.Here t b) → IsStoreOf t b
boxes_read store t b h = (h 0 0).boxes

-- a list that is too long is refused
pub list_too_long : (hash : Alg → List ℕ → List ℕ) (said : Question → Verdict) (c : Container) (store file : List ℕ)
    → nat_lt MAX_STORE_LEN (length store) ≡ true
    → IsListAnswered hash said c store file (StoreRefused StoreTooLarge (length store))
list_too_long hash said c store file long contained expected k =
    let what : k.0 ≡ refused StoreTooLarge (length store) =
    subst
    (λ (b : Bool). MatchBool b (k.0 ≡ refused StoreTooLarge (length store)) (IsManifestStore 0 0 store k.0))
    long k.1 in
    subst (λ (o : Opening Tree). IsStoreAnswer hash said file o expected) what k.2

-- nothing is asked of a list that is too long
pub long_asks : (hash : Alg → List ℕ → List ℕ) (store : List ℕ) (said : Question → Verdict) (qs : List Question)
    → nat_lt MAX_STORE_LEN (length store) ≡ true → ListAsks hash store said qs → qs ≡ []
long_asks hash store said qs long k =
    let what : k.0 ≡ refused StoreTooLarge (length store) =
    subst
    (λ (b : Bool). MatchBool b (k.0 ≡ refused StoreTooLarge (length store)) (IsManifestStore 0 0 store k.0))
    long k.1 in
    subst (λ (o : Opening Tree). OpenedAsks (check_asks hash said) o qs) what k.2

-- a list that is refused has that answer
pub list_refused :
    (hash : Alg → List ℕ → List ℕ) (said : Question → Verdict) (c : Container) (store file : List ℕ) (reason : Reason)
    (number : ℕ)
    → nat_lt MAX_STORE_LEN (length store) ≡ false → IsReadFrom store (read.Refused reason number)
    → IsListAnswered hash said c store file (StoreRefused reason number)
list_refused hash said c store file reason number small h contained expected k =
    subst (λ (o : Opening Tree). IsStoreAnswer hash said file o expected)
    (seen store (read.Refused reason number) k.0 small h k.1) k.2

-- nothing is asked of a list that is refused
pub refused_asks :
    (hash : Alg → List ℕ → List ℕ) (store : List ℕ) (said : Question → Verdict) (reason : Reason) (number : ℕ)
    (qs : List Question)
    → nat_lt MAX_STORE_LEN (length store) ≡ false → IsReadFrom store (read.Refused reason number)
    → ListAsks hash store said qs → qs ≡ []
refused_asks hash store said reason number qs small h k =
    subst (λ (o : Opening Tree). OpenedAsks (check_asks hash said) o qs)
    (seen store (read.Refused reason number) k.0 small h k.1) k.2

-- what is answered over a box tree is answered over it as that of an external store
pub store_of : (hash : Alg → List ℕ → List ℕ) (said : Question → Verdict) (file : List ℕ) (c : Container) (start len : ℕ)
    (t : Tree) (a : Answer) → IsTreeAnswered hash said c start len t file a
    → IsStoreAnswered hash said c start len t file (Of a)
store_of hash said file c start len t a h contained expected k = k.2 ∙ ap Of (h contained k.0 k.1)

-- what is answered over the box tree of the list is answered over the list
pub list_answered : {E : Type 0} (hash : Alg → List ℕ → List ℕ) (said : Question → Verdict) (c : Container)
    (store file : List ℕ) (t : Tree) (s : List ManifestBoxes) (r : Result External E)
    → nat_lt MAX_STORE_LEN (length store) ≡ false → IsReadFrom store (read.Here t s)
    → IfOk r (IsStoreAnswered hash said c 0 0 t file) → IfOk r (IsListAnswered hash said c store file)
list_answered hash said c store file t s (Ok e) small h k = λ contained expected l.
    k contained expected
    (subst (λ (w : Opening Tree). IsStoreAnswer hash said file w expected) (seen store (read.Here t s) l.0 small h l.1) l.2)
list_answered hash said c store file t s (Err e) small h k = tt

-- what is asked over the list is asked over its boxes
pub list_asks : (hash : Alg → List ℕ → List ℕ) (store : List ℕ) (said : Question → Verdict)
    (t : Tree) (s : List ManifestBoxes) (qs : List Question)
    → nat_lt MAX_STORE_LEN (length store) ≡ false → IsReadFrom store (read.Here t s)
    → ListAsks hash store said qs → OpenedAsks (check_asks hash said) (here 0 0 t) qs
list_asks hash store said t s qs small h k =
    subst (λ (w : Opening Tree). OpenedAsks (check_asks hash said) w qs) (seen store (read.Here t s) k.0 small h k.1) k.2

-- ---- a file

-- what a file is as a container follows from what was found
at_found : (hash : Alg → List ℕ → List ℕ) (said : Question → Verdict) (file store : List ℕ) (o : Opened) (e : External)
    → IsFound file o → IsExternalAnswer hash said file store e → IsLocatedAnswer hash said file store (located_of o) e
at_found hash said file store o e h k =
    subst (λ (l : Located). IsLocatedAnswer hash said file store l e) (h.only k.0 k.1) k.2

-- what is asked of a file follows from what was found
pub asks_found :
    (hash : Alg → List ℕ → List ℕ) (store file : List ℕ) (said : Question → Verdict) (o : Opened) (qs : List Question)
    → IsFound file o → ExternalAsks hash store file said qs → LocatedAsks hash store said (located_of o) qs
asks_found hash store file said o qs h k =
    subst (λ (l : Located). LocatedAsks hash store said l qs) (h.only k.0 k.1) k.2

-- the answer that any is, is the one
answered :
    (hash : Alg → List ℕ → List ℕ) (said : Question → Verdict) (file store : List ℕ) (e : External)
    → All (λ b. b < 2 ^ 8) file → All (λ b. b < 2 ^ 8) store
    → ((expected : External) → IsExternalAnswer hash said file store expected → expected ≡ e)
    → IsAnsweredExternal hash said file store e
answered hash said file store e bytes held only =
    let a = each_external_answer hash said file store bytes held in
    record { is = subst (IsExternalAnswer hash said file store) (only a.0 a.1) a.1; only = only }

-- what is answered over the list is answered of a file with a store
pub external_here : {E : Type 0} (hash : Alg → List ℕ → List ℕ) (said : Question → Verdict)
    (file store : List ℕ) (m : MediaFile) (r : Result External E) → All (λ b. b < 2 ^ 8) file
    → All (λ b. b < 2 ^ 8) store → IsFound file (opened.Here m)
    → IfOk r (IsListAnswered hash said m.container store file)
    → IfOk r (IsAnsweredExternal hash said file store)
external_here hash said file store m (Ok e) bytes held h k =
    answered hash said file store e bytes held
    (λ expected answers. k h.container expected (at_found hash said file store (opened.Here m) expected h answers))
external_here hash said file store m (Err e) bytes held h k = tt

-- what is answered over the list is answered of a file without a store
pub external_none : {E : Type 0} (hash : Alg → List ℕ → List ℕ) (said : Question → Verdict)
    (file store : List ℕ) (c : Container) (r : Result External E) → All (λ b. b < 2 ^ 8) file
    → All (λ b. b < 2 ^ 8) store → IsFound file (opened.NoStore c) → IfOk r (IsListAnswered hash said c store file)
    → IfOk r (IsAnsweredExternal hash said file store)
external_none hash said file store c (Ok e) bytes held h k =
    answered hash said file store e bytes held
    (λ expected answers. k h.container expected (at_found hash said file store (opened.NoStore c) expected h answers))
external_none hash said file store c (Err e) bytes held h k = tt

-- a file that is refused has that answer
pub external_refused :
    (hash : Alg → List ℕ → List ℕ) (said : Question → Verdict) (file store : List ℕ) (reason : Reason) (number : ℕ)
    → All (λ b. b < 2 ^ 8) file → All (λ b. b < 2 ^ 8) store → IsFound file (opened.Refused reason number)
    → IsAnsweredExternal hash said file store (Of (answer.Refused reason number))
external_refused hash said file store reason number bytes held h =
    answered hash said file store (Of (answer.Refused reason number)) bytes held
    (λ expected answers. at_found hash said file store (opened.Refused reason number) expected h answers)
