-- A file that a build comes to meets the rules, and has the bytes and the chunks of the media.
use Rattle.c2_new_front_spec.proofs.Staying.{front_bytes, front_chunks}
use Rattle.c2_new_front_spec.proofs.Order.{can_fresh, unrefused_can}
use Rattle.c2_new_front_spec.proofs.Meeting.{fresh_front}
use Rattle.c2_new_front_spec.proofs.Building.{front_has, front_is}
use Rattle.c2_definition.proofs.TheLaws.{definitions_are_well_formed}
use Rattle.c2_new_signature.proofs.TheLaws.{accepted_messages_can_be_padded}
use Rattle.c2_lemmas.proofs.Stages.{passed, stage_value, then_next, unless_passed, unless_passes}
use Rattle.c2_lemmas.proofs.Lists.{both_none}
use Rattle.std.proofs.Common.{◌≡◌, ◌⊎◌, inl, inr, ℕ, List, [], ◌∷◌, length, refl, sym, ap, ◌∙◌, subst}
use Rattle.std.specs.Prelude.{Result, Ok, Err}
use Rattle.c2_base.specs.declared.values.Question.{Question}
use Rattle.c2_spec.specs.Bmff.Boxes.{Box, HasRoots}
use Rattle.c2_spec.specs.C2pa.Message.{padded_read}
use Rattle.c2_spec.specs.C2pa.Sign1.{SignParts, sig_structure}
use Rattle.c2_spec.specs.Cbor.Deterministic.{deterministic}
use Rattle.c2_spec.specs.Jumbf.Tree.{Tree}
use Rattle.c2_spec.specs.Located.{Opening}
use Rattle.c2_spec.specs.declared.digest.Alg.{Alg}
use Rattle.c2_spec.proofs.BmffOneList.{roots_once}
use Rattle.c2_pad.specs.Fill.{fill_pairs}
use Rattle.c2_bmff_chunks.specs.Laws.{AreBytes}
use Rattle.c2_definition.specs.DefinitionFile.{IsDefinition}
use Rattle.c2_definition.specs.declared.types.Definition.{Definition}
use Rattle.c2_new_signature.specs.Signed.{IsSigned}
use Rattle.c2_new_file_spec.specs.Built.{HasDigestLen}
use Rattle.c2_new_file_spec.specs.Fresh.{GivesDigests, MeetsTheRules, fresh_content}
use Rattle.c2_new_file_spec.specs.Store.{Content, new_alg, new_claim}
use Rattle.c2_new_file_spec.specs.Written.{CanBeWritten}
use Rattle.c2_new_file_spec.specs.Films.{AreOthers, new_bmff_binding, bmff_len}
use Rattle.c2_new_front_spec.specs.Fronts.{CanBuildFront, IsFrontBuilt, front_covered, front_store}
use Rattle.c2_new_front_spec.specs.Made.{BytesAreThere, ChunksAreThere, ChunksAreThereOrRefused, FrontMeets, HasTextsIn, MadeFrontMeets}
use Rattle.c2_new_front_spec.specs.Meeting.{front_question}
use Rattle.c2_new_front_spec.specs.Order.{CanPlanFront, FrontRefusal, bad_definition, bad_signature, bmff_refusals, front_refusals, plan_refusals, reserve_refusals}
use Rattle.c2_new_front_spec.specs.Outcomes.{IsDefinitionStage, IsBmffStage, IsFrontMade, IsFrontPlanned, IsMediaStage, IsMessageStage, IsNewFile, IsPlannedIn, IsPlannedOver, NewFile, front_signed, new_file}
use Rattle.c2_new_signature.specs.Message.{IsMessageRead}
use Rattle.c2_new_front_spec.proofs.SomeOutcome.{FreeRoots, free_roots, some_file}

-- ---- what is known

-- What is known of a film that passed.
record IsBmff (media : List ℕ) (what : Opening Tree) (roots : List Box) : Type 0 where
  none : bmff_refusals media what ≡ []
  has : HasRoots media roots

-- root boxes that passed are those of a film of which nothing is refused
bmff_of : (media : List ℕ) (what : Opening Tree) (roots : List Box) → IsBmffStage media what (Ok roots)
    → IsBmff media what roots
bmff_of media what roots h =
    let p =
    unless_passed (bmff_refusals media what) (λ r. (boxes : List Box) × HasRoots media boxes × (r ≡ Ok boxes))
    roots h in
    let same : p.1.0 ≡ roots = cc (p.1.2) in
    record { none = p.0; has = subst (HasRoots media) same p.1.1 }

-- What is known of a build that comes to a file.
record Known (hash : Alg → List ℕ → List ℕ) (media definition message : List ℕ) (b : NewFile) : Type 0 where
  d : Definition
  is_d : IsDefinitionStage definition (Ok d)
  parts : SignParts
  is_parts : IsMessageStage d.protected message (Ok parts)
  what : Opening Tree
  is_media : IsMediaStage media (Ok what)
  roots : List Box
  is_bmff_file : IsBmffStage media what (Ok roots)
  unrefused : plan_refusals media roots d ≡ []
  signed : List ℕ
  is_signed : IsSigned parts d.reserve signed
  same : b ≡ new_file hash media roots d signed

-- this much is known of a build that comes to a file
known : (hash : Alg → List ℕ → List ℕ) (media definition message : List ℕ) (b : NewFile)
    → IsFrontMade hash media definition message (Ok b) → Known hash media definition message b
known hash media definition message b h =
    let one = passed (IsMediaStage media) _ b h in
    let two = passed (IsDefinitionStage definition) _ b one.next in
    let d : Definition = two.value in
    let three = passed (IsMessageStage d.protected message) _ b two.next in
    let four = passed (IsBmffStage media one.value) _ b three.next in
    let five =
    unless_passed (front_refusals media four.value d three.value) (IsNewFile hash media d three.value four.value)
    b four.next in
    let none = both_none (plan_refusals media four.value d) (reserve_refusals d three.value) five.0 in
    record {
      d = d;
      is_d = two.first;
      parts = three.value;
      is_parts = three.first;
      what = one.value;
      is_media = one.first;
      roots = four.value;
      is_bmff_file = four.first;
      unrefused = none.0;
      signed = five.1.0;
      is_signed = five.1.1;
      same = cc (five.1.2);
    }

-- ---- what is planned

-- what is signed of the file is what is planned
planned_of :
    (hash : Alg → List ℕ → List ℕ) (media definition message : List ℕ) (b : NewFile)
    (k : Known hash media definition message b)
    → IsFrontPlanned hash media definition (Ok (front_signed hash media k.roots k.d))
planned_of hash media definition message b k =
    let r : Result (List ℕ) FrontRefusal = Ok (front_signed hash media k.roots k.d) in
    then_next (IsMediaStage media) (IsPlannedOver hash media definition) k.what r k.is_media
    (then_next (IsDefinitionStage definition) _ k.d r k.is_d
    (then_next (IsBmffStage media k.what) (IsPlannedIn hash media k.d) k.roots r k.is_bmff_file
    (unless_passes (plan_refusals media k.roots k.d) (λ x. x ≡ Ok (front_signed hash media k.roots k.d)) r k.unrefused refl)))

-- the new claim, where so many bytes are reserved
abbrev claim_for : (Alg → List ℕ → List ℕ) → List ℕ → List Box → Definition → ℕ → List ℕ
claim_for hash media roots d n =
    new_claim (hash (new_alg d)) (fresh_content d)
    (new_bmff_binding (new_alg d) (hash (new_alg d) (front_covered (bmff_len (fresh_content d) n) media roots)))

-- the bytes that the new question is about are those
same_signed :
    (hash : Alg → List ℕ → List ℕ) (media : List ℕ) (roots : List Box) (d : Definition) (n : ℕ) (parts : SignParts)
    → parts.protected ≡ d.protected → n ≡ d.reserve
    → front_signed hash media roots d ≡ (front_question (hash (new_alg d)) (fresh_content d) n media roots parts).tbs
same_signed hash media roots d n parts protected filled =
    ap (λ (m : ℕ). deterministic (sig_structure d.protected (claim_for hash media roots d m))) (sym filled)
    ∙ ap (λ (x : List ℕ). deterministic (sig_structure x (claim_for hash media roots d n))) (sym protected)

-- ---- what the file meets

-- a new file can be planned of what is known
can_of : (hash : Alg → List ℕ → List ℕ) (media definition message : List ℕ) (b : NewFile) → AreBytes media
    → (k : Known hash media definition message b) → CanPlanFront media k.roots k.d
can_of hash media definition message b bytes k =
    let film = bmff_of media k.what k.roots k.is_bmff_file in
    let free : FreeRoots media = free_roots media k.what k.is_media film.none in
    let others : AreOthers k.roots =
    subst AreOthers (roots_once media free.roots k.roots free.has_roots film.has) free.others in
    unrefused_can media k.roots k.d free.film bytes film.has others k.unrefused

-- the chunks of the media are in a built file
chunks_of : (hash : List ℕ → List ℕ) (c : Content) (message media : List ℕ) (roots : List Box) (b : NewFile)
    → HasRoots media roots
    → IsFrontBuilt hash c message media b.file b.start b.len → ChunksAreThere media roots b
chunks_of hash c message media roots b has built =
    subst (λ (boxes : List Box). ChunksAreThere media boxes b)
    (roots_once media built.roots roots built.movable.has_roots has)
    (λ f v held is from within. front_chunks hash c message media b.file b.start b.len built f v held is from within)

-- the bytes of the media are in a built file
bytes_of : (hash : List ℕ → List ℕ) (c : Content) (message media : List ℕ) (roots : List Box) (b : NewFile)
    → HasRoots media roots
    → IsFrontBuilt hash c message media b.file b.start b.len → BytesAreThere media roots b
bytes_of hash c message media roots b has built =
    subst (λ (boxes : List Box). BytesAreThere media boxes b)
    (roots_once media built.roots roots built.movable.has_roots has)
    (λ i within low. front_bytes hash c message media b.file b.start b.len built i within low)

-- a file that is built meets all of it
meets_of : (hash : Alg → List ℕ → List ℕ) (media definition message : List ℕ) (b : NewFile) → GivesDigests hash
    → HasTextsIn definition → AreBytes media → (k : Known hash media definition message b)
    → FrontMeets hash media definition message (new_file hash media k.roots k.d k.signed)
meets_of hash media definition message b digests texts bytes k =
    let d : Definition = k.d in
    let c : Content = fresh_content d in
    let h : List ℕ → List ℕ = hash (new_alg d) in
    let new : NewFile = new_file hash media k.roots d k.signed in
    let sized : HasDigestLen (new_alg d) h = λ text. (digests (new_alg d) text).sized in
    let has : HasRoots media k.roots = (bmff_of media k.what k.roots k.is_bmff_file).has in
    let can : CanPlanFront media k.roots d = can_of hash media definition message b bytes k in
    let filled : length k.signed ≡ d.reserve = k.is_signed.filled in
    let fits : CanBuildFront c (length k.signed) media k.roots =
    subst (λ (n : ℕ). CanBuildFront c n media k.roots) (sym filled) can.can in
    let read : SignParts = padded_read k.parts (fill_pairs k.is_signed.fill) in
    let defined = stage_value bad_definition (IsDefinition definition) d k.is_d in
    let writable : CanBeWritten d =
    record { formed = definitions_are_well_formed definition d defined; texts = texts d defined } in
    let taken = stage_value bad_signature (IsMessageRead d.protected message) k.parts k.is_parts in
    let header : read.protected ≡ d.protected =
    (accepted_messages_can_be_padded d.protected message k.parts taken.0 taken.1).own in
    let q : Question = front_question h c (length k.signed) media k.roots read in
    let store : Tree = front_store h c k.signed media k.roots in
    let built : IsFrontBuilt h c k.signed media new.file new.start new.len =
    front_is h c k.signed media k.roots sized fits in
    let meets : MeetsTheRules hash new.file new.start new.len store (q ∷ []) =
    fresh_front hash c k.signed media k.roots read digests (can_fresh media k.roots d can) writable fits
    k.is_signed.spelled in
    record {
      new = d;
      defined = defined;
      parts = k.parts;
      spelled = taken.1;
      own = header;
      padded = k.signed;
      filled = k.is_signed;
      built = built;
      roots = k.roots;
      has_roots = has;
      store = store;
      is = refl;
      question = q;
      meets = meets;
      signed =
          subst (λ (x : List ℕ). IsFrontPlanned hash media definition (Ok x))
          (same_signed hash media k.roots d (length k.signed) read header filled)
          (planned_of hash media definition message b k);
      base = (front_has h c k.signed media k.roots sized fits).left;
      bytes = bytes_of h c k.signed media k.roots new has built;
      chunks = chunks_of h c k.signed media k.roots new has built;
    }

-- what a build comes to meets all of it
pub made_meets : MadeFrontMeets
made_meets hash media definition message b digests texts bytes h =
    let k = known hash media definition message b h in
    subst (FrontMeets hash media definition message) (sym k.same)
    (meets_of hash media definition message b digests texts bytes k)

-- the chunks of the media are there in the built file, or the build comes to a refusal
pub chunks_or_refused : ChunksAreThereOrRefused
chunks_or_refused hash media definition message what opened digests texts bytes are =
    let r = some_file hash media definition message what opened are in by r.0 r.1
  where
    by : (r : Result NewFile FrontRefusal) → IsFrontMade hash media definition message r
        → ((refusal : FrontRefusal) × IsFrontMade hash media definition message (Err refusal))
        ⊎ ((b : NewFile) × IsFrontMade hash media definition message (Ok b) × ((roots : List Box) × HasRoots media roots × ChunksAreThere media roots b))
    by (Err e) h = inl (e, h)
    by (Ok b) h =
        let m = made_meets hash media definition message b digests texts bytes h in
        inr (b, h, (m.roots, m.has_roots, m.chunks))
