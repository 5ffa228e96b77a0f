-- The inputs of worked files that collect: two definitions without assertions under labels of their own, a JPEG file without a store, a
-- message, and the file that is built of the first definition and that JPEG file, which judges accept who approve each question.
use Rattle.c2_new_content_spec.proofs.SplitLaws.{a_file_built_in_its_place_meets_the_rules_fresh}
use Rattle.c2_new_signature.proofs.TheLaws.{a_message_fills_its_reserve_or_needs_more}
use Rattle.std.proofs.Common.{◌≡◌, ◌⊎◌, inl, inr, ℕ, ◌+◌, ◌<◌, ◌≤◌, false, unwrap_or, List, [], ◌∷◌, length, Some, None, refl, sym, ap, ◌∙◌, subst, arith, codes, lit<, lit≤}
use Rattle.std.specs.Prelude.{nat_le, nat_lt}
use Rattle.std.specs.List.{AllZip}
use Rattle.std.proofs.lemmas.Bool.{false≢true, leb-false, ltb-false}
use Rattle.uuid.proofs.OnLiterals.{uuid_on_literals}
use Rattle.c2_base.specs.declared.limits.TheConstants.{FILE_LEN_LIMIT, MAX_STORE_LEN}
use Rattle.c2_base.specs.declared.values.Question.{Question}
use Rattle.c2_spec.specs.C2pa.Manifest.{Manifest, manifests_of}
use Rattle.c2_spec.specs.C2pa.Message.{IsPlainMessage, bare_bytes, padded_read, tagged_message}
use Rattle.c2_spec.specs.C2pa.Sign1.{SignParts, SpellsMessage}
use Rattle.c2_spec.specs.Cbor.Deterministic.{shortest_head}
use Rattle.c2_spec.specs.Cbor.Item.{Pairs, dict, no_pairs}
use Rattle.c2_spec.specs.Cbor.Legal.{HasBadSimple, IsLegal}
use Rattle.c2_spec.specs.Cbor.Spelling.{direct}
use Rattle.c2_spec.specs.Jpeg.Packets.{is_first_packet, is_store_start}
use Rattle.c2_spec.specs.Jpeg.Places.{IsOfSegments}
use Rattle.c2_spec.specs.Jpeg.Segments.{Segment}
use Rattle.c2_spec.specs.Jpeg.Store.{HasNoJpegStore, NoneBegins}
use Rattle.c2_spec.specs.Jpeg.Writing.{packets_bytes}
use Rattle.c2_spec.specs.Jumbf.Tree.{Tree, tree_bytes}
use Rattle.c2_spec.specs.Located as located
use Rattle.c2_spec.specs.declared.digest.Alg.{Alg}
use Rattle.c2_spec.specs.declared.digest.Alg.TheVariants.{Sha256}
use Rattle.c2_spec.specs.declared.panel.Verdict.{Verdict}
use Rattle.c2_spec.specs.declared.panel.Verdict.TheVariants.{Approved}
use Rattle.c2_rules.specs.Chains.{label_in}
use Rattle.c2_rules.specs.CheckList.{AreApproved, StoreReading, questions}
use Rattle.c2_rules.specs.Opened.{IsOpened}
use Rattle.c2_rules.specs.Readings.{IsReading, Reading}
use Rattle.c2_pad.specs.Fill.{fill_pairs}
use Rattle.c2_definition.specs.declared.types.Definition.{Definition}
use Rattle.c2_new_signature.specs.Message.{AreFew, HasNoPadding, IsAccepted}
use Rattle.c2_new_signature.specs.Refusals.{reserve_needed}
use Rattle.c2_new_signature.specs.Signed.{IsSigned, NeedsMore}
use Rattle.c2_new_file_spec.specs.Fresh.{GivesDigests, MeetsTheRules, fresh_content}
use Rattle.c2_new_file_spec.specs.Manifests.{manifest_of}
use Rattle.c2_new_file_spec.specs.Store.{Content, new_manifest}
use Rattle.c2_new_file_spec.specs.Written.{CanBeWritten, HasTexts}
use Rattle.c2_new_file_spec.proofs.ByIndex.{same_manifests}
use Rattle.c2_new_file_spec.specs.Places.{CanPut, IsPlace, Place, in_segments, place_binding, place_file, place_question, place_start, place_store, range_len, store_len}
use Rattle.c2_collect_spec.specs.Stores.{IsAcceptedFile}
use Rattle.c2_rules.proofs.Approving.{approved_is_valid}
use Rattle.c2_cbor_spec.proofs.PlainBack.{one_item}
use Rattle.c2_spec.proofs.OneMessage.{same_message}

-- ---- the definitions

-- a definition under this label
abbrev pub defined : List ℕ → Definition
defined label =
    record
    { label = label; instance_id = codes "i"; generator = codes "g"; title = None; protected = 10 ∷ []; reserve = 64; assertions = []; redact = []; alg = Sha256 }

-- the label of the first
abbrev pub first_label : List ℕ
first_label = codes "urn:c2pa:00000000-0000-4000-8000-00000000000a"

-- the label of the second
abbrev pub second_label : List ℕ
second_label = codes "urn:c2pa:00000000-0000-4000-8000-00000000000b"

-- the texts of the first are texts
first_texts : HasTexts (defined first_label)
unfolding lib.Utf8.encode
first_texts = record {
  label = record { utf8 = (first_label, (refl, refl)); short = lit< tt };
  instance = record { utf8 = (codes "i", (refl, refl)); short = lit< tt };
  generator = record { utf8 = (codes "g", (refl, refl)); short = lit< tt };
  title = tt;
  labels = tt;
  redact = tt;
}

-- the texts of the second definition are texts
pub second_texts : HasTexts (defined second_label)
unfolding lib.Utf8.encode
second_texts = record {
  label = record { utf8 = (second_label, (refl, refl)); short = lit< tt };
  instance = record { utf8 = (codes "i", (refl, refl)); short = lit< tt };
  generator = record { utf8 = (codes "g", (refl, refl)); short = lit< tt };
  title = tt;
  labels = tt;
  redact = tt;
}

-- the first can be written
pub first_written : CanBeWritten (defined first_label)
unfolding uuid_on_literals
first_written = record {
  formed =
      record
      { label = refl; instance = refl; generator = refl; protected = lit≤ tt; least = lit≤ tt; most = lit≤ tt; labels = tt; differ = refl; payloads = tt };
  texts = first_texts;
}

-- the second definition can be written
pub second_written : CanBeWritten (defined second_label)
unfolding uuid_on_literals
second_written = record {
  formed =
      record
      { label = refl; instance = refl; generator = refl; protected = lit≤ tt; least = lit≤ tt; most = lit≤ tt; labels = tt; differ = refl; payloads = tt };
  texts = second_texts;
}

-- ---- the media

-- SOI, the APP0 segment of JFIF, and EOI
abbrev pub media : List ℕ
media =
    0xFF ∷ 0xD8 ∷ 0xFF ∷ 0xE0 ∷ 0x00 ∷ 0x10 ∷ 0x4A ∷ 0x46 ∷ 0x49 ∷ 0x46 ∷ 0x00 ∷ 0x01 ∷ 0x02 ∷ 0x00 ∷ 0x00 ∷ 0x01 ∷ 0x00
    ∷ 0x01 ∷ 0x00 ∷ 0x00 ∷ 0xFF ∷ 0xD9 ∷ []

-- the APP0 segment of JFIF
abbrev pub jfif : Segment
jfif =
    record
    { fill = 0; marker = 0xE0; payload = 0x4A ∷ 0x46 ∷ 0x49 ∷ 0x46 ∷ 0x00 ∷ 0x01 ∷ 0x02 ∷ 0x00 ∷ 0x00 ∷ 0x01 ∷ 0x00 ∷ 0x01 ∷ 0x00 ∷ 0x00 ∷ [] }

-- the media has one segment
one_segment : IsOfSegments media (jfif ∷ [])
one_segment = record {
  fits = lit< tt;
  rest = 0xFF ∷ 0xD9 ∷ [];
  begins =
      record
      { bytes = refl; each = (record { marker = refl; alone = λ h. absurd (false≢true h); fits = lit< tt }, tt) };
  ends = record { fill = 0; marker = 0xD9; more = []; bytes = refl; ends = inl refl };
}

-- which begins no store
pub none_begins : NoneBegins (jfif ∷ [])
unfolding is_first_packet is_store_start
none_begins = (refl, tt)

-- the media has no store
no_store : HasNoJpegStore media
no_store =
    record
    { fits = one_segment.fits; segments = jfif ∷ []; rest = one_segment.rest; begins = one_segment.begins; ends = one_segment.ends; none = none_begins }

-- the media is opened as a file without a store
pub is_absent : IsOpened media located.absent
is_absent = (located.absent, no_store, refl)

-- where packets go, and the least number
abbrev pub place : Place
place = in_segments (jfif ∷ []) (Some 0x0211)

-- the place of packets in the media is this
pub is_place : IsPlace media place
is_place =
    (refl, one_segment, record { least = lit≤ tt; most = lit< tt; free = refl; first = λ n low high. absurd (omega (arith, low, high)) })

-- ---- the message

-- a tagged message with the definitions' protected header, and a signature of one byte
abbrev pub message : List ℕ
message = 0xD2 ∷ 0x84 ∷ 0x41 ∷ 0x0A ∷ 0xA0 ∷ 0xF6 ∷ 0x41 ∷ 0x00 ∷ []

-- the parts of the message
abbrev pub parts : SignParts
parts = record { protected = 0x0A ∷ []; unprotected = dict no_pairs; signature = 0x00 ∷ [] }

-- the message is legal
legal : IsLegal (tagged_message parts)
legal = record { shallow = lit≤ tt; distinct = (tt, (tt, (tt, (tt, tt)))); no_bad_simple = λ h. bad h }
  where
    bad : HasBadSimple (tagged_message parts) → ⊥
    bad (inl h) = h
    bad (inr (inl h)) = h
    bad (inr (inr (inl h))) = omega (arith, h.0)
    bad (inr (inr (inr (inl h)))) = h
    bad (inr (inr (inr (inr h)))) = h

-- the message is plain
pub plain : IsPlainMessage parts
plain = record { legal = legal; plain = (tt, (tt, (tt, (tt, tt)))) }

-- the bytes spell it
pub spelled : SpellsMessage message parts
spelled = record {
  message = tagged_message parts;
  legal = legal;
  spelled = (
    0xD2 ∷ [],
    0x84 ∷ 0x41 ∷ 0x0A ∷ 0xA0 ∷ 0xF6 ∷ 0x41 ∷ 0x00 ∷ [],
    (direct, lit< tt, refl),
    inl (
      0x84 ∷ [],
      0x41 ∷ 0x0A ∷ 0xA0 ∷ 0xF6 ∷ 0x41 ∷ 0x00 ∷ [],
      (direct, lit< tt, refl),
      (
        0x41 ∷ 0x0A ∷ [],
        0xA0 ∷ 0xF6 ∷ 0x41 ∷ 0x00 ∷ [],
        inl (0x41 ∷ [], (direct, lit< tt, refl), refl, refl),
        (
          0xA0 ∷ [],
          0xF6 ∷ 0x41 ∷ 0x00 ∷ [],
          inl (0xA0 ∷ [], [], (direct, lit< tt, refl), refl, refl),
          (
            0xF6 ∷ [],
            0x41 ∷ 0x00 ∷ [],
            inl (lit< tt, refl),
            (0x41 ∷ 0x00 ∷ [], [], inl (0x41 ∷ [], (direct, lit< tt, refl), refl, refl), refl, refl),
            refl,
          ),
          refl,
        ),
        refl,
      ),
      refl,
    ),
    refl,
  );
  is = record { header = (no_pairs, refl); form = inr refl };
}

-- the message is accepted, where the protected header is its own
pub accepted_message : IsAccepted parts.protected message
accepted_message = (
  lit≤ tt,
  (
    (parts, spelled),
    (
      λ p s. subst IsPlainMessage (same p s) plain,
      (
        λ p s. sym (ap (λ (q : SignParts). q.protected) (same p s)),
        (λ p s. few p (same p s), (λ p s. none p (same p s), tt)),
      ),
    ),
  ),
)
  where
    same : (p : SignParts) → SpellsMessage message p → parts ≡ p
    same p s = same_message one_item message parts p spelled s

    entries_none : (p : SignParts) → parts ≡ p → (entries : Pairs) → p.unprotected ≡ dict entries → no_pairs ≡ entries
    entries_none p e entries is =
        let own : dict no_pairs ≡ dict entries = ap (λ (q : SignParts). q.unprotected) e ∙ is in
        cc (own)

    few : (p : SignParts) → parts ≡ p → (entries : Pairs) → p.unprotected ≡ dict entries → AreFew entries
    few p e entries is = subst AreFew (entries_none p e entries is) (lit≤ tt)

    none : (p : SignParts) → parts ≡ p → (entries : Pairs) → p.unprotected ≡ dict entries → HasNoPadding entries
    none p e entries is = subst HasNoPadding (entries_none p e entries is) (tt, tt)

-- the message has eight bytes, which is enough without padding
enough : reserve_needed 64 (length (bare_bytes parts)) ≡ None
unfolding shortest_head
enough = refl

-- the message fills what is reserved
pub signed : (filled : List ℕ) × IsSigned parts 64 filled
signed = by (a_message_fills_its_reserve_or_needs_more.either message parts 64
    (record { spelled = spelled; small = lit≤ tt; entries = no_pairs; can = record { map = refl; plain = plain; few = lit≤ tt; no_pad = tt; no_pad2 = tt }; most = lit≤ tt }))
  where
    by : ((filled : List ℕ) × IsSigned parts 64 filled) ⊎ NeedsMore parts 64
        → (filled : List ℕ) × IsSigned parts 64 filled
    by (inl s) = s
    by (inr n) = let bad = sym enough ∙ n.1 in absurd (cc (bad))

-- ---- the first file

-- what goes into its store
abbrev pub first : Content
first = fresh_content (defined first_label)

-- the manifest of the first file, with this message
abbrev pub manifest : (List ℕ → List ℕ) → List ℕ → Tree
manifest hash filled = new_manifest hash first (place_binding hash first (length filled) media place) filled

-- the store of the first file
abbrev pub store : (List ℕ → List ℕ) → List ℕ → Tree
store hash filled = place_store hash first filled media place

-- the file
abbrev pub first_file : (List ℕ → List ℕ) → List ℕ → List ℕ
first_file hash filled = place_file media place (packets_bytes (tree_bytes (store hash filled)) 0x0211)

-- the length of its range
abbrev pub first_len : List ℕ → ℕ
first_len filled = range_len place first (length filled)

-- the store of the first file isn't too large
store_small : nat_lt MAX_STORE_LEN (store_len place first 64) ≡ false
unfolding shortest_head
store_small = refl

-- the new file isn't too large
file_small : nat_le FILE_LEN_LIMIT (length media + range_len place first 64) ≡ false
unfolding shortest_head
file_small = refl

-- the store of the first file can be put in
pub can_put : (filled : List ℕ) → length filled ≡ 64 → CanPut first (length filled) media place
can_put filled e = record {
  place = record { is = is_place; free = none_begins };
  room = (0x0211, refl);
  small =
      subst (λ n. store_len place first n ≤ MAX_STORE_LEN) (sym e)
      (ltb-false MAX_STORE_LEN (store_len place first 64) store_small);
  fits =
      subst (λ n. length media + range_len place first n < FILE_LEN_LIMIT) (sym e)
      (leb-false FILE_LEN_LIMIT (length media + range_len place first 64) file_small);
}

-- the file meets all rules but verdicts
first_meets : (hash : Alg → List ℕ → List ℕ) → GivesDigests hash → (filled : List ℕ)
    → (s : IsSigned parts 64 filled)
    → MeetsTheRules hash (first_file (hash Sha256) filled) (place_start place) (first_len filled) (store (hash Sha256) filled)
    (place_question (hash Sha256) first (length filled) media place (padded_read parts (fill_pairs s.fill)) ∷ [])
first_meets hash digests filled s =
    a_file_built_in_its_place_meets_the_rules_fresh hash first filled media
    (packets_bytes (tree_bytes (store (hash Sha256) filled)) 0x0211) place
    (padded_read parts (fill_pairs s.fill)) digests (record { carried = refl; ingredients = refl; redact = refl })
    first_written
    (can_put filled s.filled) s.spelled refl

-- judges who approve each question approve these
pub all_approved : (said : Question → Verdict) → ((q : Question) → said q ≡ Approved) → (qs : List Question)
    → AreApproved said qs
all_approved said all [] = tt
all_approved said all (q ∷ qs) = (all q, all_approved said all qs)

-- What is known of the first file: such judges accept it, and its one manifest has the first label.
pub record IsFirst (hash : Alg → List ℕ → List ℕ) (said : Question → Verdict) (filled : List ℕ) : Type 0 where
  pub reading : StoreReading
  pub accepted : IsAcceptedFile hash said (first_file (hash Sha256) filled) (place_start place) (first_len filled)
      (store (hash Sha256) filled) reading
  pub own : Reading
  pub one : reading.readings ≡ own ∷ []
  pub label : label_in own ≡ first_label

-- What one manifest is read as.
pub record IsOneReading (m : Manifest) (rs : List Reading) : Type 0 where
  pub reading : Reading
  pub are : rs ≡ reading ∷ []
  pub same : reading.manifest ≡ m

-- one manifest is read as one
pub one_reading : (m : Manifest) (rs : List Reading) → AllZip IsReading (m ∷ []) rs → IsOneReading m rs
one_reading m [] h = absurd h
one_reading m (r ∷ []) h = record { reading = r; are = refl; same = h.0.same }
one_reading m (r ∷ q ∷ rs) h = absurd h.1

-- the first file is as the record says
pub is_first : (hash : Alg → List ℕ → List ℕ) (said : Question → Verdict)
    → GivesDigests hash → ((q : Question) → said q ≡ Approved) → (filled : List ℕ) → IsSigned parts 64 filled
    → IsFirst hash said filled
is_first hash said digests all filled s =
    let t : Tree = store (hash Sha256) filled in
    let m = first_meets hash digests filled s in
    let r : StoreReading = m.reading in
    let k : IsOneReading (manifest_of (manifest (hash Sha256) filled)) r.readings =
    one_reading (manifest_of (manifest (hash Sha256) filled)) r.readings
    (subst (λ (ms : List Manifest). AllZip IsReading ms r.readings) (same_manifests t) m.reads.reads.each) in
    record {
      reading = r;
      accepted = record {
        opened = m.opened;
        reads = m.reads;
        valid =
            approved_is_valid hash said (manifests_of t) r m.reads.reads.each m.holds
            (all_approved said all (questions r.readings));
      };
      own = k.reading;
      one = k.are;
      label = ap (λ (x : Manifest). unwrap_or x.label []) k.same;
    }
