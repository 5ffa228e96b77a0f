-- The file that is built whose new store collects from two files meets all that is said of it.
use Rattle.c2_collect_spec.proofs.Collecting.{of_either}
use Rattle.c2_collect_spec.proofs.Filed.{collected_place, file_reaches}
use Rattle.c2_new_content_spec.proofs.SplitLaws.{a_base_stays}
use Rattle.std.proofs.Common.{◌≡◌, ℕ, List, ◌∷◌, length, Some, sym, ap, ◌∙◌, subst}
use Rattle.c2_base.specs.declared.values.Question.{Question}
use Rattle.c2_spec.specs.C2pa.Manifest.{manifests_of}
use Rattle.c2_spec.specs.C2pa.Message.{padded_read}
use Rattle.c2_spec.specs.C2pa.Sign1.{SignParts, sig_structure}
use Rattle.c2_spec.specs.Cbor.Deterministic.{deterministic}
use Rattle.c2_spec.specs.Jumbf.Tree.{Tree, tree_bytes}
use Rattle.c2_spec.specs.PutIn.{taken_out}
use Rattle.c2_spec.specs.declared.digest.Alg.{Alg}
use Rattle.c2_spec.specs.declared.panel.Verdict.{Verdict}
use Rattle.c2_rules.specs.CheckList.{AreApproved, StoreReading}
use Rattle.c2_pad.specs.Fill.{fill_pairs}
use Rattle.c2_definition.specs.declared.types.Definition.{Definition}
use Rattle.c2_new_file_spec.specs.Fresh.{MeetsTheRules}
use Rattle.c2_new_file_spec.specs.Store.{Content, new_alg, new_claim}
use Rattle.c2_new_file_spec.specs.Places.{place_binding, place_question, place_start, place_store, put_bytes, range_len}
use Rattle.c2_collect_spec.specs.Stores.{IsAcceptedFile}
use Rattle.c2_collect_spec.specs.Whole.{EachCollectedFileMeets, pair_questions}
use Rattle.c2_rules.proofs.Approving.{approved_is_valid}

-- a file that meets the rules is accepted by judges who approve its questions
meeting_accepted : (hash : Alg → List ℕ → List ℕ) (file : List ℕ) (start len : ℕ) (t : Tree) (qs : List Question)
    → MeetsTheRules hash file start len t qs → (said : Question → Verdict) → AreApproved said qs
    → (s : StoreReading) × IsAcceptedFile hash said file start len t s
meeting_accepted hash file start len t qs m said all = (
  m.reading,
  record {
    opened = m.opened;
    reads = m.reads;
    valid =
        approved_is_valid hash said (manifests_of t) m.reading m.reads.reads.each m.holds
        (subst (AreApproved said) (sym m.asks) all);
  },
)

-- each file meets it
pub each_meets : EachCollectedFileMeets
each_meets hash d pair parts p file digests b = record {
  len = len;
  range = ap (λ n. range_len p x n) b.signed.filled;
  store = t;
  is = ap (λ (e : Definition). place_store (hash (new_alg e)) x b.message base p) b.collected.content.definition;
  question = q;
  meets = met;
  signed = signed;
  either =
      of_either hash pair.media.boxes pair.other.boxes pair.media.readings pair.other.readings
      b.collected.can.joins;
  reaches =
      λ s reads. file_reaches hash d pair.media.boxes pair.other.boxes pair.media.readings pair.other.readings b.content b.message base file p own s digests b.collected b.can b.signed.spelled reads;
  base = subst (λ (f : List ℕ). taken_out (place_start p) len f ≡ base) (sym b.is)
      (a_base_stays (hash (new_alg b.content.definition)) x b.message base b.bytes p (λ text. (digests (new_alg b.content.definition) text).sized) b.can put);
  accepted = meeting_accepted hash file (place_start p) len t (q ∷ pair_questions pair) met;
}
  where
    x : Content
    x = b.content

    base : List ℕ
    base = pair.media.base

    own : SignParts
    own = padded_read parts (fill_pairs b.signed.fill)

    len : ℕ
    len = range_len p x (length b.message)

    t : Tree
    t = place_store (hash (new_alg b.content.definition)) x b.message base p

    q : Question
    q = place_question (hash (new_alg b.content.definition)) x (length b.message) base p own

    put : put_bytes p (tree_bytes t) ≡ Some b.bytes
    put = subst (λ (e : Definition). put_bytes p (tree_bytes (place_store (hash (new_alg e)) x b.message base p)) ≡ Some b.bytes)
        (sym b.collected.content.definition) b.put

    met : MeetsTheRules hash file (place_start p) len t (q ∷ pair_questions pair)
    met = subst (λ (f : List ℕ). MeetsTheRules hash f (place_start p) len t (q ∷ pair_questions pair)) (sym b.is)
        (collected_place hash d pair.media.boxes pair.other.boxes pair.media.readings pair.other.readings b.content b.message
        base b.bytes p own digests b.collected b.can b.signed.spelled put)

    -- what is signed of a definition, with this protected header and so many bytes for the message
    signed_with : Definition → List ℕ → ℕ → List ℕ
    signed_with e protected n =
        deterministic
        (sig_structure protected (new_claim (hash (new_alg e)) x (place_binding (hash (new_alg e)) x n base p)))

    signed : signed_with b.content.definition own.protected (length b.message) ≡ signed_with d d.protected d.reserve
    signed = ap (λ (h : List ℕ). signed_with b.content.definition h (length b.message)) b.own
        ∙ ap (λ n. signed_with b.content.definition d.protected n) b.signed.filled
        ∙ ap (λ (e : Definition). signed_with e d.protected d.reserve) b.collected.content.definition
