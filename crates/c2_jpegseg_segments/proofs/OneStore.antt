-- Segments without a fault: no store begins among them, or one is open after them, or they hold one. Only one of the three is so,
-- and no segment among them has a fault.
use Rattle.std.proofs.Common.{◌≡◌, ℕ, ◌+◌, ◌<◌, ◌≤◌, ◌⊎◌, inl, inr, true, false, cond, List, [], ◌∷◌, ◌++◌, length, Some, None, refl, sym, ap, ◌∙◌, subst, append_assoc, arith, ltb, length-append}
use Rattle.std.proofs.lemmas.List.{append-nil, append_cancel_left}
use Rattle.std.specs.List.{AllByRecursion}
use borrow.Author.Tests.{le-ltb, eq-eqb, both_ways, not-true}
use Rattle.c2_base.specs.declared.limits.TheConstants.{MAX_STORE_LEN}
use Rattle.c2_base.specs.declared.media.MediaError.{MediaError}
use Rattle.c2_base.specs.declared.media.MediaError.TheVariants.{BadPacket, StoreTooLarge}
use Rattle.c2_spec.specs.Jpeg.Segments.{Segment, place_after}
use Rattle.c2_spec.specs.Jpeg.Packets.{Packet, IsPacketRun, packet_in, is_store_start, is_stray, is_further_packet, stated_length}
use Rattle.c2_spec.specs.Jpeg.Store.{NoneBegins, HoldsStore, first_packet_fault, HoldsPart, IsNextPacket, HaveNoFault, none_begins, open_after, one_held, PacketFault, bad_first, not_next, second_store, stray_packet}
use Rattle.c2_jpegseg_segments.proofs.PacketRuns.{bodies, run-front, run-longer, run-parts}
use Rattle.c2_jpegseg_segments.proofs.SegmentLists.{two_cuts}
use Rattle.c2_jpegseg_segments.proofs.Steps.{start-says}
use Rattle.c2_lemmas.proofs.Bools.{both_true}
use Rattle.c2_lemmas.proofs.Each.{each_back, each_front}

-- the first packet of a store passes
first_passes : (p : ℕ) (q : Packet) → length q.header + length q.body ≤ stated_length q.header
    → stated_length q.header ≤ MAX_STORE_LEN → first_packet_fault p q ≡ None
unfolding first_packet_fault
first_passes p q fits small =
    ap
    (λ b. cond b (Some (BadPacket p)) (cond (ltb MAX_STORE_LEN (stated_length q.header)) (Some (StoreTooLarge (stated_length q.header))) (cond (ltb (stated_length q.header) (length q.header + length q.body)) (Some (BadPacket p)) None)))
    (le-ltb (stated_length q.header) (length q.header) (omega arith))
    ∙ ap
    (λ b. cond b (Some (StoreTooLarge (stated_length q.header))) (cond (ltb (stated_length q.header) (length q.header + length q.body)) (Some (BadPacket p)) None))
    (le-ltb MAX_STORE_LEN (stated_length q.header) small)
    ∙ ap (λ b. cond b (Some (BadPacket p)) None)
    (le-ltb (stated_length q.header) (length q.header + length q.body) fits)

-- one store begins at one place
pub first_split : (b1 b2 : List Segment) (f1 f2 : Segment) (t1 t2 : List Segment) → b1 ++ f1 ∷ t1 ≡ b2 ++ f2 ∷ t2
    → AllByRecursion (λ s. is_store_start s ≡ false) b1 → AllByRecursion (λ s. is_store_start s ≡ false) b2
    → is_store_start f1 ≡ true → is_store_start f2 ≡ true → (b1 ≡ b2) × (f1 ≡ f2) × (t1 ≡ t2)
first_split [] [] f1 f2 t1 t2 e n1 n2 s1 s2 = (refl, cc, cc)
first_split [] (x ∷ b2) f1 f2 t1 t2 e n1 n2 s1 s2 = let same : x ≡ f1 = cc in absurd (both_ways (is_store_start x) n2.0 (ap is_store_start same ∙ s1))
first_split (x ∷ b1) [] f1 f2 t1 t2 e n1 n2 s1 s2 = let same : x ≡ f2 = cc in absurd (both_ways (is_store_start x) n1.0 (ap is_store_start same ∙ s2))
first_split (x ∷ b1) (y ∷ b2) f1 f2 t1 t2 e n1 n2 s1 s2 =
    let tail : b1 ++ f1 ∷ t1 ≡ b2 ++ f2 ∷ t2 = cc in
    let r = first_split b1 b2 f1 f2 t1 t2 tail n1.1 n2.1 s1 s2 in
    let head : x ≡ y = cc (e) in
    (ap (λ z. z ∷ b1) head ∙ ap (λ (zs : List Segment). y ∷ zs) r.0, r.1, r.2)

-- runs of one length in the same segments have the same packets
others_same : (o1 o2 a1 a2 : List Segment) → o1 ++ a1 ≡ o2 ++ a2
    → AllByRecursion (λ s. 0 < length (packet_in s).body) o1 → AllByRecursion (λ s. 0 < length (packet_in s).body) o2
    → length (bodies o1) ≡ length (bodies o2) → o1 ≡ o2
others_same [] [] a1 a2 e h1 h2 n = refl
others_same [] (y ∷ o2) a1 a2 e h1 h2 n = let l : length ((packet_in y).body ++ bodies o2) ≡ length (packet_in y).body + length (bodies o2) = length-append (packet_in y).body (bodies o2) in absurd (omega (arith, n, l, h2.0))
others_same (x ∷ o1) [] a1 a2 e h1 h2 n = let l : length ((packet_in x).body ++ bodies o1) ≡ length (packet_in x).body + length (bodies o1) = length-append (packet_in x).body (bodies o1) in absurd (omega (arith, n, l, h1.0))
others_same (x ∷ o1) (y ∷ o2) a1 a2 e h1 h2 n =
    let head : x ≡ y = cc (e) in
    let tail : o1 ++ a1 ≡ o2 ++ a2 = cc in
    let l1 : length ((packet_in x).body ++ bodies o1) ≡ length (packet_in x).body + length (bodies o1) =
    length-append (packet_in x).body (bodies o1) in
    let l2 : length ((packet_in y).body ++ bodies o2) ≡ length (packet_in y).body + length (bodies o2) =
    length-append (packet_in y).body (bodies o2) in
    let b : length (packet_in x).body ≡ length (packet_in y).body = ap (λ s. length (packet_in s).body) head in
    ap (λ z. z ∷ o1) head
    ∙ ap (λ (zs : List Segment). y ∷ zs) (others_same o1 o2 a1 a2 tail h1.1 h2.1 (omega (arith, n, l1, l2, b)))

-- the same segments with more after them, cut at the store that they hold
split_more : (xs ys zs before : List Segment) (first : Segment) (others after : List Segment)
    → xs ≡ before ++ (first ∷ others ++ after) → ys ≡ xs ++ zs
    → ys ≡ before ++ first ∷ (others ++ (after ++ zs))
split_more xs ys zs before first others after split more =
    more ∙ ap (λ (t : List Segment). t ++ zs) split ∙ append_assoc before (first ∷ others ++ after) zs
    ∙ ap (λ (t : List Segment). before ++ t) (append_assoc (first ∷ others) after zs)

-- no store begins, or one is held, or one is open: not two of these
pub held-none : (segments : List Segment) (start len : ℕ) (store : List ℕ) → HoldsStore segments start len store
    → NoneBegins segments → ⊥
held-none segments start len store h none =
    let all = subst NoneBegins h.split none in
    both_ways _ (each_back (λ t. is_store_start t ≡ false) h.before (h.first ∷ h.others ++ h.after) all).0 h.starts

-- the same of an open store
pub part-none : (segments : List Segment) (first : Segment) (others : List Segment) → HoldsPart segments first others
    → NoneBegins segments → ⊥
part-none segments first others p none =
    let all = subst NoneBegins p.split none in
    both_ways _ (each_back (λ t. is_store_start t ≡ false) p.before (first ∷ others) all).0 p.starts

-- where a store is held, none is open, whatever comes after
pub held-part : (xs ys zs : List Segment) (start len : ℕ) (store : List ℕ) (first : Segment) (others : List Segment)
    → ys ≡ xs ++ zs → HoldsStore xs start len store → HoldsPart ys first others → ⊥
held-part xs ys zs start len store first others more h p =
    let one =
    first_split h.before p.before h.first first (h.others ++ (h.after ++ zs)) others
    (sym (split_more xs ys zs h.before h.first h.others h.after h.split more) ∙ p.split) h.none_before
    p.none_before h.starts p.starts in
    let run : IsPacketRun h.first (h.others ++ (h.after ++ zs)) p.part =
    subst (λ (o : List Segment). IsPacketRun h.first o p.part) (sym one.2)
    (subst (λ f. IsPacketRun f others p.part) (sym one.1) p.is_run) in
    let longer : length p.part ≡ length store + length (bodies (h.after ++ zs)) =
    run-longer h.first h.others (h.after ++ zs) store p.part h.is_run run in
    let box : stated_length (packet_in h.first).header ≡ stated_length (packet_in first).header =
    ap (λ f. stated_length (packet_in f).header) one.1 in
    omega (arith, longer, box, h.whole, p.missing)

-- Two stores that segments hold, with more segments after the one list, are one.
pub record SameHeld (before1 before2 : List Segment) (first1 first2 : Segment) (others1 others2 after1 after2 zs : List Segment) : Type 0 where
  pub before : before1 ≡ before2
  pub first : first1 ≡ first2
  pub others : others1 ≡ others2
  pub after : after2 ≡ after1 ++ zs

-- they have the same packets, and the further segments come after
pub held-same : (xs ys zs : List Segment) (s1 l1 s2 l2 : ℕ) (b1 b2 : List ℕ) → ys ≡ xs ++ zs
    → (h : HoldsStore xs s1 l1 b1) (k : HoldsStore ys s2 l2 b2)
    → SameHeld h.before k.before h.first k.first h.others k.others h.after k.after zs
held-same xs ys zs s1 l1 s2 l2 b1 b2 more h k =
    let one =
    first_split h.before k.before h.first k.first (h.others ++ (h.after ++ zs)) (k.others ++ k.after)
    (sym (split_more xs ys zs h.before h.first h.others h.after h.split more) ∙ k.split) h.none_before
    k.none_before h.starts k.starts in
    let box : stated_length (packet_in h.first).header ≡ stated_length (packet_in k.first).header =
    ap (λ f. stated_length (packet_in f).header) one.1 in
    let head : length (packet_in h.first).header ≡ length (packet_in k.first).header =
    ap (λ f. length (packet_in f).header) one.1 in
    let body : length (packet_in h.first).body ≡ length (packet_in k.first).body =
    ap (λ f. length (packet_in f).body) one.1 in
    let others : h.others ≡ k.others =
    others_same h.others k.others (h.after ++ zs) k.after one.2 h.is_run.bodies.1 k.is_run.bodies.1
    (omega (arith, run-parts h.first h.others b1 h.is_run, run-parts k.first k.others b2 k.is_run, box, head, body, h.whole, k.whole)) in
    record {
      before = one.0;
      first = one.1;
      others = others;
      after =
          append_cancel_left k.others k.after (h.after ++ zs)
          (sym one.2 ∙ ap (λ (o : List Segment). o ++ (h.after ++ zs)) others);
    }

-- in a run that is no longer than its header states, a packet is a next packet of those before it
next_in : (first : Segment) (others : List Segment) (s : Segment) (more : List Segment) (store : List ℕ)
    → IsPacketRun first (others ++ s ∷ more) store → length store ≤ stated_length (packet_in first).header
    → IsNextPacket first others s
next_in first others s more store r fits =
    let whole : IsPacketRun first ((others ++ s ∷ []) ++ more) store =
    subst (λ (o : List Segment). IsPacketRun first o store) (sym (append_assoc others (s ∷ []) more)) r in
    let run = run-front first (others ++ s ∷ []) more store whole in
    let longer = run-longer first (others ++ s ∷ []) more _ store run whole in
    record { part = _; is_run = run; fits = omega (arith, longer, fits) }

-- a first packet among segments without a fault passes its tests
bad_first_not : (xs zs : List Segment) (z : Segment) (e : MediaError) → HaveNoFault (xs ++ z ∷ zs) → NoneBegins xs
    → is_store_start z ≡ true → first_packet_fault (place_after xs) (packet_in z) ≡ Some e → ⊥
bad_first_not xs zs z e (none_begins all) none starts fails =
    both_ways _ (each_back (λ t. is_store_start t ≡ false) xs (z ∷ zs) all).0 starts
bad_first_not xs zs z e (open_after f o p) none starts fails =
    let one = first_split xs p.before z f zs o p.split none p.none_before starts p.starts in
    let passes =
    first_passes (place_after xs) (packet_in f) (omega (arith, run-parts f o p.part p.is_run, p.missing)) p.small in
    let h : Some e ≡ None = sym fails ∙ ap (λ s. first_packet_fault (place_after xs) (packet_in s)) one.1 ∙ passes in
    cc (h)
bad_first_not xs zs z e (one_held start len store k) none starts fails =
    let one = first_split xs k.before z k.first zs (k.others ++ k.after) k.split none k.none_before starts k.starts in
    let passes =
    first_passes (place_after xs) (packet_in k.first)
    (omega (arith, run-parts k.first k.others store k.is_run, k.whole)) (omega (arith, k.whole, k.small)) in
    let h : Some e ≡ None = sym fails ∙ ap (λ s. first_packet_fault (place_after xs) (packet_in s)) one.1 ∙ passes in
    cc (h)

-- where a store is open, the next segment among segments without a fault is its next packet
open_next : (xs zs : List Segment) (z : Segment) (first : Segment) (others : List Segment) → HaveNoFault (xs ++ z ∷ zs)
    → HoldsPart xs first others → IsNextPacket first others z
open_next xs zs z first others (none_begins all) p =
    absurd (part-none xs first others p (each_front (λ t. is_store_start t ≡ false) xs (z ∷ zs) all))
open_next xs zs z first others (open_after f o k) p =
    let cut : p.before ++ first ∷ (others ++ z ∷ zs) ≡ k.before ++ f ∷ o =
    sym (ap (λ (t : List Segment). t ++ z ∷ zs) p.split ∙ append_assoc p.before (first ∷ others) (z ∷ zs))
    ∙ k.split in
    let one =
    first_split p.before k.before first f (others ++ z ∷ zs) o cut p.none_before k.none_before p.starts k.starts in
    let run : IsPacketRun first (others ++ z ∷ zs) k.part =
    subst (λ (t : List Segment). IsPacketRun first t k.part) (sym one.2)
    (subst (λ t. IsPacketRun t o k.part) (sym one.1) k.is_run) in
    let box : stated_length (packet_in first).header ≡ stated_length (packet_in f).header =
    ap (λ t. stated_length (packet_in t).header) one.1 in
    next_in first others z zs k.part run (omega (arith, box, k.missing))
open_next xs zs z first others (one_held start len store k) p =
    let cut : p.before ++ first ∷ (others ++ z ∷ zs) ≡ k.before ++ k.first ∷ (k.others ++ k.after) =
    sym (ap (λ (t : List Segment). t ++ z ∷ zs) p.split ∙ append_assoc p.before (first ∷ others) (z ∷ zs))
    ∙ k.split in
    let one =
    first_split p.before k.before first k.first (others ++ z ∷ zs) (k.others ++ k.after) cut p.none_before
    k.none_before p.starts k.starts in
    let run : IsPacketRun first k.others store = subst (λ t. IsPacketRun t k.others store) (sym one.1) k.is_run in
    let box : stated_length (packet_in first).header ≡ stated_length (packet_in k.first).header =
    ap (λ t. stated_length (packet_in t).header) one.1 in
    go run box (two_cuts others (z ∷ zs) k.others k.after one.2)
  where
    go : IsPacketRun first k.others store
        → stated_length (packet_in first).header ≡ stated_length (packet_in k.first).header
        → ((j : List Segment) × (others ≡ k.others ++ j)) ⊎ ((y : Segment) × (j : List Segment) × (k.others ≡ others ++ y ∷ j) × (z ∷ zs ≡ y ∷ (j ++ k.after)))
        → IsNextPacket first others z
    go run box (inl a) =
        let part : IsPacketRun first (k.others ++ a.0) p.part =
        subst (λ (t : List Segment). IsPacketRun first t p.part) a.1 p.is_run in
        let longer = run-longer first k.others a.0 store p.part run part in
        absurd (omega (arith, longer, box, p.missing, k.whole))
    go run box (inr a) =
        let same : a.0 ≡ z = cc (a.3) in
        let whole : IsPacketRun first (others ++ a.0 ∷ a.1) store =
        subst (λ (t : List Segment). IsPacketRun first t store) a.2 run in
        subst (IsNextPacket first others) same (next_in first others a.0 a.1 store whole (omega (arith, box, k.whole)))

-- after a whole store no other begins, and no packet of its number stands
after_held : (xs zs : List Segment) (z : Segment) (start len : ℕ) (store : List ℕ) → HaveNoFault (xs ++ z ∷ zs)
    → (h : HoldsStore xs start len store)
    → (is_store_start z ≡ false) × (is_stray (packet_in h.first).en z ≡ false)
after_held xs zs z start len store (none_begins all) h =
    absurd (held-none xs start len store h (each_front (λ t. is_store_start t ≡ false) xs (z ∷ zs) all))
after_held xs zs z start len store (open_after f o p) h = absurd (held-part xs _ (z ∷ zs) start len store f o refl h p)
after_held xs zs z start len store (one_held s l b k) h =
    let same = held-same xs _ (z ∷ zs) start len s l store b refl h k in
    let clear : NoneBegins (h.after ++ z ∷ zs) = subst NoneBegins same.after k.none_after in
    let stray : AllByRecursion (λ t. is_stray (packet_in k.first).en t ≡ false) (h.after ++ z ∷ zs) = subst (AllByRecursion (λ t. is_stray (packet_in k.first).en t ≡ false)) same.after k.no_stray in (
      (each_back (λ t. is_store_start t ≡ false) h.after (z ∷ zs) clear).0,
      ap (λ f. is_stray (packet_in f).en z) same.first ∙ (each_back (λ t. is_stray (packet_in k.first).en t ≡ false) h.after (z ∷ zs) stray).0,
    )

-- a segment among segments without a fault has none
pub no-packet-fault : (xs zs : List Segment) (z : Segment) (e : MediaError) → HaveNoFault (xs ++ z ∷ zs)
    → PacketFault xs z e → ⊥
no-packet-fault xs zs z _ fine (bad_first e none starts fails) = bad_first_not xs zs z e fine none starts fails
no-packet-fault xs zs z _ fine (not_next first others p other) = other (open_next xs zs z first others fine p)
no-packet-fault xs zs z _ fine (second_store start len store h starts) =
    both_ways _ (after_held xs zs z start len store fine h).0 starts
no-packet-fault xs zs z _ fine (stray_packet start len store h stray) =
    both_ways _ (after_held xs zs z start len store fine h).1 stray

-- a stray packet begins no store
stray_not_start : (en : ℕ) (s : Segment) → is_stray en s ≡ true → is_store_start s ≡ true → ⊥
unfolding is_stray is_further_packet
stray_not_start en s stray starts =
    let further = both_true _ _ (both_true _ _ stray).1 in
    both_ways _ (not-true _ further.1) (eq-eqb _ _ (start-says s starts).1)

-- a segment has one fault
pub packet-fault-same : (xs : List Segment) (z : Segment) (e f : MediaError) → PacketFault xs z e → PacketFault xs z f
    → e ≡ f
packet-fault-same xs z _ _ (bad_first e _ _ a) (bad_first f _ _ b) = let h : Some e ≡ Some f = sym a ∙ b in cc (h)
packet-fault-same xs z _ _ (bad_first _ none _ _) (not_next f o p _) = absurd (part-none xs f o p none)
packet-fault-same xs z _ _ (bad_first _ none _ _) (second_store s l b h _) = absurd (held-none xs s l b h none)
packet-fault-same xs z _ _ (bad_first _ none _ _) (stray_packet s l b h _) = absurd (held-none xs s l b h none)
packet-fault-same xs z _ _ (not_next f o p _) (bad_first _ none _ _) = absurd (part-none xs f o p none)
packet-fault-same xs z _ _ (not_next _ _ _ _) (not_next _ _ _ _) = refl
packet-fault-same xs z _ _ (not_next f o p _) (second_store s l b h _) =
    absurd (held-part xs xs [] s l b f o (sym (append-nil xs)) h p)
packet-fault-same xs z _ _ (not_next _ _ _ _) (stray_packet _ _ _ _ _) = refl
packet-fault-same xs z _ _ (second_store s l b h _) (bad_first _ none _ _) = absurd (held-none xs s l b h none)
packet-fault-same xs z _ _ (second_store s l b h _) (not_next f o p _) =
    absurd (held-part xs xs [] s l b f o (sym (append-nil xs)) h p)
packet-fault-same xs z _ _ (second_store _ _ _ _ _) (second_store _ _ _ _ _) = refl
packet-fault-same xs z _ _ (second_store _ _ _ _ starts) (stray_packet _ _ _ h stray) =
    absurd (stray_not_start _ z stray starts)
packet-fault-same xs z _ _ (stray_packet s l b h _) (bad_first _ none _ _) = absurd (held-none xs s l b h none)
packet-fault-same xs z _ _ (stray_packet _ _ _ _ _) (not_next _ _ _ _) = refl
packet-fault-same xs z _ _ (stray_packet _ _ _ h stray) (second_store _ _ _ _ starts) =
    absurd (stray_not_start _ z stray starts)
packet-fault-same xs z _ _ (stray_packet _ _ _ _ _) (stray_packet _ _ _ _ _) = refl
