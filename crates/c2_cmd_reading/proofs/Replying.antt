-- Outcomes over what was opened, found or read are outcomes over the file.
use Rattle.std.proofs.Common.{◌≡◌, refl, sym, ◌∙◌, ap, subst, ℕ, List}
use Rattle.std.specs.Prelude.{◌≢◌, IfOk, Result}
use Rattle.c2_base.specs.declared.media.Found.{Found}
use Rattle.c2_spec.specs.declared.reason.Reason.{Reason}
use Rattle.c2_spec.specs.Container.{IsLocated}
use Rattle.c2_spec.specs.Jumbf.Tree.{Tree}
use Rattle.c2_spec.specs.Located.{Opening, Located, refused, absent, here}
use Rattle.c2_rules.specs.Opened.{IsBoxTree, IsBoxed}
use Rattle.c2_rules.specs.declared.answer.Answer.{Answer as Checked}
use Rattle.c2_opening.specs.Opened.{IsFound}
use Rattle.c2_opening.specs.declared.types.Opened.{Opened}
use Rattle.c2_opening.specs.declared.types.Opened.TheVariants as opened
use Rattle.c2_cmd_outcome.specs.Outcome.{Outcome, Reports, answered, reports}
use Rattle.c2_cmd_outcome.specs.Reply.{outcome_of}
use Rattle.c2_cmd_outcome.specs.declared.reply.Fault.{Fault}
use Rattle.c2_cmd_outcome.specs.declared.reply.Reply.{Reply}
use Rattle.c2_cmd_outcome.specs.declared.types.Answer.TheVariants as answer
use Rattle.c2_cmd_outcome.proofs.Replying.{each_ok, fits_words}
use Rattle.c2_texts.specs.Texts.{refused_line}
use Rattle.c2_cmd_reading.specs.Outcomes.{IsListing, IsMediaOutcome}
use Rattle.c2_cmd_reading.specs.Reading.{IsFoundOutcome, IsShort, IsStored}
use Rattle.c2_cmd_reading.specs.declared.open.Stored.{Stored}
use Rattle.c2_cmd_reading.specs.declared.open.Stored.TheVariants as stored

-- ---- a file that was opened

-- a file whose store was found, and one that has a reply already
pub stored_here : (file : List ℕ) (s : Stored) (f : Found) → s ≡ stored.Here f → IsStored file s
    → IsLocated file (here f.start f.length f.store)
stored_here file s f is h = subst (λ (x : Stored). IsStored file x) is h

-- a file that has a reply already is one that is refused or has no store, and the reply says which
pub stored_reply : (file : List ℕ) (s : Stored) (reply : Reply) → s ≡ stored.Reply reply → IsStored file s
    → (l : Located) × IsLocated file l × IsShort l (outcome_of reply)
stored_reply file s reply is h = subst (λ (x : Stored). IsStored file x) is h

-- the reply to a file that is refused
pub stored_refused : (file : List ℕ) (o : Opened) (reason : Reason) (number : ℕ) (reply : Reply) → IsFound file o
    → o ≡ opened.Refused reason number → outcome_of reply ≡ reports answer.Refused (refused_line reason number)
    → IsStored file (stored.Reply reply)
stored_refused file o reason number reply found is told = let f : IsFound file (opened.Refused reason number) = subst (IsFound file) is found in (refused reason number, f.located, told)

-- ---- a store that was found

-- a reply over the store that was found in a file is one over the file
pub media_outcome : (P : Tree → Outcome → Type 0) (file : List ℕ) (f : Found) (e : Outcome)
    → IsLocated file (here f.start f.length f.store) → IsFoundOutcome P f e → IsMediaOutcome P file e
media_outcome P file f e is h = (h.0, (here f.start f.length f.store, is, h.1), h.2)

-- a list over the store that was found in a file is one over the file
pub boxed_outcome : (file : List ℕ) (f : Found) (e : Outcome) → IsLocated file (here f.start f.length f.store)
    → (what : Opening Tree) × IsBoxTree f.start f.length f.store what × Reports IsListing what e
    → (what : Opening Tree) × IsBoxed file what × Reports IsListing what e
boxed_outcome file f e is h = (h.0, (here f.start f.length f.store, is, h.1), h.2)

-- a file without a store, or one that is refused, is opened as what it is
pub short_boxed : (file : List ℕ) (l : Located) (e : Outcome) → IsLocated file l → IsShort l e
    → (what : Opening Tree) × IsBoxed file what × Reports IsListing what e
short_boxed file (refused reason number) e is h = (refused reason number, (refused reason number, is, refl), h)
short_boxed file absent e is h = (absent, (absent, is, refl), h)
short_boxed file (here start len store) e is h = absurd h

-- that a file is refused or has no store is the outcome of every command that reads manifests
pub media_short : (P : Tree → Outcome → Type 0) (file : List ℕ) (l : Located) (e : Outcome) → IsLocated file l
    → IsShort l e → IsMediaOutcome P file e
media_short P file (refused reason number) e is h = (refused reason number, (refused reason number, is, refl), h)
media_short P file absent e is h = (absent, (absent, is, refl), h)
media_short P file (here start len store) e is h = absurd h

-- ---- the answer of the check

-- a reply to it never says that the words fit no command
pub answered_words : (found : Checked) (r : Result Reply Fault) → IfOk r (λ reply. outcome_of reply ≡ answered found)
    → IfOk r (λ reply. reply.answer ≢ answer.Usage)
answered_words found r out =
    each_ok _ (λ (reply : Reply). reply.answer ≢ answer.Usage) r
    (λ reply same usage. fits_words found (sym (ap (λ (x : Outcome). x.answer) same) ∙ usage)) out
