-- What `list` reports of a store that was found.
use Rattle.std.proofs.Common.{◌≡◌, refl, sym, ◌∙◌, subst, ◌⊎◌, List, ℕ, Option, Some}
use Rattle.c2_base.specs.declared.media.Found.{Found}
use Rattle.c2_spec.specs.Jumbf.Faults.{JumbfFault}
use Rattle.c2_spec.specs.Jumbf.Tree.{Tree, SpellsTree}
use Rattle.c2_spec.specs.Located.{refused, here}
use Rattle.c2_spec.specs.Reason.{boxes_refusal}
use Rattle.c2_spec.specs.declared.jumbf.JumbfError.{JumbfError}
use Rattle.c2_spec.specs.declared.jumbf.JumbfError.TheVariants as boxes
use Rattle.c2_spec.specs.declared.reason.Refusal.{Refusal}
use Rattle.c2_texts.specs.Texts.{listing, refused_line}
use Rattle.c2_cmd_outcome.specs.Outcome.{reports}
use Rattle.c2_cmd_reading.specs.Reading.{ListsStore}
use Rattle.c2_cmd_outcome.specs.Reply.{outcome_of}
use Rattle.c2_cmd_outcome.specs.declared.reply.Reply.{Reply}
use Rattle.c2_cmd_outcome.specs.declared.types.Answer.TheVariants as answer
use Rattle.c2_spec.proofs.JumbfRefusals.{faulty}

-- bytes that spell a box tree
pub lists_tree : (f : Found) (bytes : List ℕ) (t : Tree) (reply : Reply) → bytes ≡ f.store → SpellsTree bytes t
    → outcome_of reply ≡ reports answer.Done (listing t) → ListsStore f reply
lists_tree f bytes t reply same spells out =
    (here f.start f.length t, (subst (λ (l : List ℕ). SpellsTree l t) same spells, refl), out)

-- bytes that spell none
pub lists_refused : (f : Found) (bytes : List ℕ) (e : JumbfError) (o : Option Refusal) (r : Refusal) (reply : Reply)
    → bytes ≡ f.store → (e ≡ boxes.NoMemory) ⊎ JumbfFault bytes e → o ≡ boxes_refusal e → o ≡ Some r
    → outcome_of reply ≡ reports answer.Refused (refused_line r.reason r.number) → ListsStore f reply
lists_refused f bytes e o r reply same fault is some out =
    let refuses : boxes_refusal e ≡ Some r = sym is ∙ some in
    (refused r.reason r.number, (e, subst (λ (l : List ℕ). JumbfFault l e) same (faulty bytes e r refuses fault), refuses), out)
