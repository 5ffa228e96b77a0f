-- One append after another.
use Rattle.std.proofs.Common.{◌≡◌, refl, sym, ap, ◌∙◌, subst, ℕ, suc, ◌+◌, ◌-◌, ◌≤◌, Bool, List, [], ◌++◌, length, min, take, drop, Result, Ok, Err, arith, length-append}
use Rattle.std.proofs.lemmas.List.{append_assoc, append-nil, take_all, take-take, length-take, drop_min}
use Rattle.std.specs.declared.option.Option.{Option}
use Rattle.std.specs.declared.option.Option.TheVariants.{Some, None}
use Rattle.c2_base.specs.declared.outside.Failed.{Failed}
use Rattle.c2_base.specs.Causes.{Rose}
use Rattle.c2_base.specs.Sink.{then_written, spare_less, OkWithinSpare}
use Rattle.std.specs.Int.{w16, to_be_bytes}
use Rattle.c2_spec.specs.declared.markers.TheConstants.{APP11}
use Rattle.c2_spec.specs.Jpeg.Segments.{marker_bytes, segment_bytes}
use Rattle.c2_spec.specs.Jpeg.Writing.{packet_payload, packet_segment, packets_from}
use Rattle.c2_spec.specs.declared.packets.TheConstants.{PACKET_BODY_LEN}
use Rattle.std.specs.List.{flat_map}
use Rattle.c2_jpegseg.specs.Writing.{IsWriting, packet_head}
use Rattle.c2_base.proofs.Written.{appended_twice, prefix-back, prefix-front, spare_less_two, within-back}

-- what was appended of a list, with some answer, was appended of an equal list with an equal answer
pub same : {K T E : Type 0} (written : K → Option (List ℕ)) (spare : K → Option ℕ) (finished : K → Bool) (faults : K → ℕ) (xs ys : List ℕ) (old new : K) (r q : Result T E)
    → xs ≡ ys → r ≡ q → IsWriting written spare finished faults xs old new r
    → IsWriting written spare finished faults ys old new q
same written spare finished faults xs ys old new r q list answer h =
    subst (λ zs. IsWriting written spare finished faults zs old new q) list
    (subst (λ a. IsWriting written spare finished faults xs old new a) answer h)

-- where the first append fails, so does the whole
pub stops : {K T E : Type 0} (written : K → Option (List ℕ)) (spare : K → Option ℕ) (finished : K → Bool) (faults : K → ℕ) (front back : List ℕ) (old new : K) (e f : E)
    → IsWriting {K = K} {T = T} {E = E} written spare finished faults front old new (Err e)
    → IsWriting {K = K} {T = T} {E = E} written spare finished faults (front ++ back) old new (Err f)
stops written spare finished faults front back old new e f h = record {
  all = tt;
  less = tt;
  prefix = prefix-front written spare front back old new h.prefix;
  unfinished = h.unfinished;
  cause = record { later = h.cause.later; ok = tt; failed = h.cause.failed };
  within = λ s is fits. h.within s is (omega (arith, fits, length-append front back));
}

-- one append and then another are the append of both lists
pub follows : {K T E : Type 0} (written : K → Option (List ℕ)) (spare : K → Option ℕ) (finished : K → Bool) (faults : K → ℕ) (front back : List ℕ) (old mid new : K) (x : T) (r : Result T E)
    → IsWriting {K = K} {T = T} {E = E} written spare finished faults front old mid (Ok x)
    → IsWriting written spare finished faults back mid new r
    → IsWriting written spare finished faults (front ++ back) old new r
follows written spare finished faults front back old mid new x (Ok y) h k = record {
  all = k.all ∙ ap (λ w. then_written w back) h.all ∙ appended_twice (written old) front back;
  less =
      k.less ∙ ap (λ s. spare_less s (length back)) h.less ∙ spare_less_two (spare old) (length front) (length back)
      ∙ ap (spare_less (spare old)) (sym (length-append front back));
  prefix = prefix-back written spare front back old mid new h.all h.less k.prefix;
  unfinished = k.unfinished ∙ h.unfinished;
  cause = record { later = omega (arith, h.cause.later, k.cause.later); ok = k.cause.ok ∙ h.cause.ok; failed = tt };
  within = λ s is fits. refl;
}
follows {T = T} {E = E} written spare finished faults front back old mid new x (Err e) h k = record {
  all = tt;
  less = tt;
  prefix = prefix-back written spare front back old mid new h.all h.less k.prefix;
  unfinished = k.unfinished ∙ h.unfinished;
  cause =
      record
      { later = omega (arith, h.cause.later, k.cause.later); ok = tt; failed = subst (λ n. Rose n (faults new)) h.cause.ok k.cause.failed };
  within =
      λ s is fits. within-back {T = T} {E = E} (spare old) (length front) (length back) (Err e) (subst (λ t. OkWithinSpare {T = T} {E = E} t (length back) (Err e)) h.less k.within) s is (omega (arith, fits, length-append front back));
}

-- the parts of a packet
pub packet_split : (header body : List ℕ) (en z : ℕ) → length header ≡ 8
    → packet_head en z (length body) ++ (header ++ body) ≡ segment_bytes (packet_segment header en z body)
packet_split header body en z is =
    let size : length body + 18 ≡ length (packet_payload header en z body) + 2 =
    omega (arith, is, length-append header body) in
    ap (λ n. marker_bytes 0 APP11 ++ (to_be_bytes w16 n ++ packet_payload header en z body)) size

-- nothing was appended yet
pub nothing :
    {K T E : Type 0} (written : K → Option (List ℕ)) (spare : K → Option ℕ) (finished : K → Bool) (faults : K → ℕ)
    (old : K) (x : T)
    → IsWriting {K = K} {T = T} {E = E} written spare finished faults [] old old (Ok x)
nothing {T = T} {E = E} written spare finished faults old x = record {
  all = sym (then_written-none (written old));
  less = sym (spare_less-none (spare old));
  prefix =
      record
      { count = 0; in_piece = omega arith; prefix = sym (then_written-none (written old)); less = sym (spare_less-none (spare old)) };
  unfinished = refl;
  cause = record { later = omega arith; ok = refl; failed = tt };
  within = λ s is fits. refl;
}
  where
    then_written-none : (w : Option (List ℕ)) → then_written w [] ≡ w
    then_written-none None = refl
    then_written-none (Some w) = ap Some (append-nil w)

    spare_less-none : (s : Option ℕ) → spare_less s 0 ≡ s
    spare_less-none None = refl
    spare_less-none (Some s) = let e : s - 0 ≡ s = omega arith in ap Some e

-- The first part of a whole list was appended, and the rest is missing.
pub record Between {K : Type 0} (written : K → Option (List ℕ)) (spare : K → Option ℕ) (finished : K → Bool) (faults : K → ℕ) (whole rest : List ℕ) (old new : K) : Type 0 where
  pub front : List ℕ
  pub split : front ++ rest ≡ whole
  pub appended : IsWriting {K = K} {T = Unit {0}} {E = Failed} written spare finished faults front old new (Ok tt)

-- a list of at most so many elements, cut there or at its end
pub cut : (n : ℕ) (xs : List ℕ) → (take (min (length xs) n) xs ≡ take n xs) × (drop (min (length xs) n) xs ≡ drop n xs)
cut n xs = (front, back)
  where
    front : take (min (length xs) n) xs ≡ take n xs
    front =
        sym (take-take (min (length xs) n) n xs (omega arith))
        ∙ take_all (min (length xs) n) (take n xs) (omega (arith, length-take n xs))

    back : drop (min (length xs) n) xs ≡ drop n xs
    back = let e : min (length xs) n ≡ min n (length xs) = omega arith in ap (λ m. drop m xs) e ∙ drop_min n xs

-- the next packet, and those after it
pub packet_next : (header body : List ℕ) (en z k : ℕ) → 1 ≤ k → flat_map segment_bytes (packets_from header en k z body)
    ≡ segment_bytes (packet_segment header en z (take (min (length body) PACKET_BODY_LEN) body)) ++ flat_map
    segment_bytes (packets_from header en (k - 1) (z + 1) (drop (min (length body) PACKET_BODY_LEN) body))
packet_next header body en z k some =
    let one : k ≡ suc (k - 1) = omega arith in
    ap (λ n. flat_map segment_bytes (packets_from header en n z body)) one
    ∙ ap
    (λ b. segment_bytes (packet_segment header en z b) ++ flat_map segment_bytes (packets_from header en (k - 1) (z + 1) (drop PACKET_BODY_LEN body)))
    (sym (cut PACKET_BODY_LEN body).0)
    ∙ ap
    (λ b. segment_bytes (packet_segment header en z (take (min (length body) PACKET_BODY_LEN) body)) ++ flat_map segment_bytes (packets_from header en (k - 1) (z + 1) b))
    (sym (cut PACKET_BODY_LEN body).1)

-- the next packet, and those after it, by a count, a cut and a rest with names of their own
pub packet_step : (header body body' : List ℕ) (en z k k' n : ℕ) → n ≡ min (length body) PACKET_BODY_LEN → k ≡ k' + 1
    → body' ≡ drop n body
    → flat_map segment_bytes (packets_from header en k z body) ≡ segment_bytes (packet_segment header en z (take n body)) ++ flat_map segment_bytes (packets_from header en k' (z + 1) body')
packet_step header body body' en z k k' n at count rest =
    let less : k - 1 ≡ k' = omega arith in
    packet_next header body en z k (omega arith)
    ∙ ap
    (λ m. segment_bytes (packet_segment header en z (take m body)) ++ flat_map segment_bytes (packets_from header en (k - 1) (z + 1) (drop m body)))
    (sym at)
    ∙ ap
    (λ b. segment_bytes (packet_segment header en z (take n body)) ++ flat_map segment_bytes (packets_from header en (k - 1) (z + 1) b))
    (sym rest)
    ∙ ap
    (λ j. segment_bytes (packet_segment header en z (take n body)) ++ flat_map segment_bytes (packets_from header en j (z + 1) body'))
    less

-- one more piece was appended
pub between-next : {K : Type 0} (written : K → Option (List ℕ)) (spare : K → Option ℕ) (finished : K → Bool) (faults : K → ℕ) (whole rest piece more : List ℕ) (old mid new : K) (x : Unit {0})
    → Between written spare finished faults whole rest old mid → rest ≡ piece ++ more
    → IsWriting {K = K} {T = Unit {0}} {E = Failed} written spare finished faults piece mid new (Ok x)
    → Between written spare finished faults whole more old new
between-next written spare finished faults whole rest piece more old mid new x b is h = record {
  front = b.front ++ piece;
  split = append_assoc b.front piece more ∙ ap (λ r. b.front ++ r) (sym is) ∙ b.split;
  appended = follows written spare finished faults b.front piece old mid new tt (Ok tt) b.appended h;
}

-- the next piece fails
pub between-stops : {K : Type 0} (written : K → Option (List ℕ)) (spare : K → Option ℕ) (finished : K → Bool) (faults : K → ℕ) (whole rest piece more : List ℕ) (old mid new : K) (e f : Failed)
    → Between written spare finished faults whole rest old mid → rest ≡ piece ++ more
    → IsWriting {K = K} {T = Unit {0}} {E = Failed} written spare finished faults piece mid new (Err e)
    → IsWriting {K = K} {T = Unit {0}} {E = Failed} written spare finished faults whole old new (Err f)
between-stops written spare finished faults whole rest piece more old mid new e f b is h =
    same written spare finished faults (b.front ++ (piece ++ more)) whole old new (Err f) (Err f)
    (ap (λ r. b.front ++ r) (sym is) ∙ b.split) refl
    (follows written spare finished faults b.front (piece ++ more) old mid new tt (Err f) b.appended (stops written spare finished faults piece more mid new e f h))

-- nothing is missing
pub between-done : {K : Type 0} (written : K → Option (List ℕ)) (spare : K → Option ℕ) (finished : K → Bool) (faults : K → ℕ) (whole rest : List ℕ) (old new : K)
    → Between written spare finished faults whole rest old new → rest ≡ []
    → IsWriting {K = K} {T = Unit {0}} {E = Failed} written spare finished faults whole old new (Ok tt)
between-done written spare finished faults whole rest old new b is =
    same written spare finished faults b.front whole old new (Ok tt) (Ok tt)
    (sym (append-nil b.front) ∙ ap (λ r. b.front ++ r) (sym is) ∙ b.split) refl b.appended
