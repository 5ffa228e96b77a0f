-- The head of a box and its bytes.
use Rattle.std.proofs.Common.{◌≡◌, ℕ, ◌+◌, ◌-◌, ◌^◌, ◌<◌, ◌≤◌, Bool, true, false, cond, List, ◌++◌, length, take, drop, None, refl, sym, ap, ◌∙◌, subst, arith}
use Rattle.std.proofs.lemmas.List.{length-take-le, length-drop, take-take, take-append-drop, take_rest}
use Rattle.std.specs.Int.{w32, w64, to_be_bytes, from_be_bytes}
use borrow.Author.Tests.{eqb-true}
use Rattle.c2_spec.specs.Jumbf.Tree.{head_len, boxed, head_bytes, FitsHead}
use Rattle.c2_spec.specs.Jumbf.Faults.{tells_wide, told_total, told_kind, told_payload, box_head_fault}
use Rattle.c2_spec.specs.Jumbf.Boxes.{told_head}
use Rattle.c2_spec.proofs.JumbfHeads.{good_at}
use Rattle.c2_jumbf.specs.declared.front.Front.{Front}
use Rattle.c2_jumbf.specs.Heads.{IsHead}
use Rattle.c2_lemmas.proofs.Bytes.{AreBytes, bytes-drop, bytes-take, small_4, spell_4, spell_8}
use Rattle.c2_lemmas.proofs.Lists.{take_split}

-- a box is as long as its header and its payload
pub payload_size : (region : List ℕ) (h : Front) → IsHead region h → length (told_payload region) + h.header ≡ h.total
payload_size region h k =
    let n : length (take (told_total region) region) ≡ told_total region =
    length-take-le (told_total region) region (omega (arith, k.total, k.inside)) in
    omega
    (arith, length-drop (head_len (tells_wide region)) (take (told_total region) region), n, k.total, k.header, k.least)

-- The box that a head shows is spelled by the bytes up to its end.
pub front_box : (region : List ℕ) (h : Front) → AreBytes region → IsHead region h
    → take h.total region ≡ boxed (told_kind region) (tells_wide region) (told_payload region)
front_box region h bytes k = ap (λ n. take n region) k.total ∙ sym (take-append-drop (head_len (tells_wide region)) (take (told_total region) region)) ∙ ap (λ (x : List ℕ). x ++ told_payload region) heads
  where
    go : (b : Bool) → tells_wide region ≡ b
        → take (head_len b) (take (told_total region) region) ≡ head_bytes (told_kind region) b (length (told_payload region))
    go true e =
        let least : 16 ≤ told_total region = omega (arith, k.least, k.total, k.header ∙ ap head_len e) in
        let size : told_total region ≡ 16 + length (told_payload region) =
        omega (arith, payload_size region h k, k.total, k.header ∙ ap head_len e) in
        let one : 1 ≡ from_be_bytes w32 (take 4 (drop 0 region)) = sym (eqb-true _ _ e) in
        let long : 16 + length (told_payload region) ≡ from_be_bytes w64 (take 8 (drop 8 region)) =
        sym size
        ∙ ap (λ b. cond b (from_be_bytes w64 (take 8 (drop 8 region))) (from_be_bytes w32 (take 4 region))) e in
        take-take 16 (told_total region) region least ∙ take_split 8 8 region
        ∙ ap (λ (x : List ℕ). x ++ take 8 (drop 8 region)) (take_split 4 4 region)
        ∙ ap (λ (x : List ℕ). (x ++ take 4 (drop 4 region)) ++ take 8 (drop 8 region))
        (sym (spell_4 region 0 1 bytes (omega (arith, k.inside, k.total, least)) one))
        ∙ ap (λ (x : List ℕ). (to_be_bytes w32 1 ++ x) ++ take 8 (drop 8 region))
        (sym (spell_4 region 4 (told_kind region) bytes (omega (arith, k.inside, k.total, least)) refl))
        ∙ ap (λ (x : List ℕ). (to_be_bytes w32 1 ++ to_be_bytes w32 (told_kind region)) ++ x)
        (sym (spell_8 region 8 (16 + length (told_payload region)) bytes (omega (arith, k.inside, k.total, least)) long))
    go false e =
        let least : 8 ≤ told_total region = omega (arith, k.least, k.total, k.header ∙ ap head_len e) in
        let size : told_total region ≡ 8 + length (told_payload region) =
        omega (arith, payload_size region h k, k.total, k.header ∙ ap head_len e) in
        let short : 8 + length (told_payload region) ≡ from_be_bytes w32 (take 4 (drop 0 region)) =
        sym size
        ∙ ap (λ b. cond b (from_be_bytes w64 (take 8 (drop 8 region))) (from_be_bytes w32 (take 4 region))) e in
        take-take 8 (told_total region) region least ∙ take_split 4 4 region
        ∙ ap (λ (x : List ℕ). x ++ take 4 (drop 4 region))
        (sym (spell_4 region 0 (8 + length (told_payload region)) bytes (omega (arith, k.inside, k.total, least)) short))
        ∙ ap (λ (x : List ℕ). to_be_bytes w32 (8 + length (told_payload region)) ++ x)
        (sym (spell_4 region 4 (told_kind region) bytes (omega (arith, k.inside, k.total, least)) refl))

    heads : take (head_len (tells_wide region)) (take (told_total region) region) ≡ head_bytes (told_kind region)
        (tells_wide region) (length (told_payload region))
    heads = go (tells_wide region) refl

-- the header of a box of a region below 2^64 bytes can state its length
pub front_fits : (region : List ℕ) (h : Front) → AreBytes region → length region < 2 ^ 64 → IsHead region h
    → FitsHead (told_kind region) (tells_wide region) (length (told_payload region))
front_fits region h bytes small k = record { type = small_4 (take 4 (drop 4 region)) (bytes-take 4 (drop 4 region) (bytes-drop 4 region bytes)); total = go (tells_wide region) refl }
  where
    go : (b : Bool) → tells_wide region ≡ b → head_len b + length (told_payload region) < cond b (2 ^ 64) (2 ^ 32)
    go true e = omega (arith, payload_size region h k, k.header ∙ ap head_len e, k.inside)
    go false e =
        let short : told_total region ≡ from_be_bytes w32 (take 4 region) =
        ap (λ b. cond b (from_be_bytes w64 (take 8 (drop 8 region))) (from_be_bytes w32 (take 4 region))) e in
        omega
        (arith, payload_size region h k, k.header ∙ ap head_len e, k.total, short, small_4 (take 4 region) (bytes-take 4 region bytes))

-- a region with a header without fault is its first box and what follows that
pub front_whole : (region : List ℕ) (h : Front) → AreBytes region → IsHead region h
    → region ≡ boxed (told_kind region) (tells_wide region) (told_payload region) ++ drop h.total region
front_whole region h bytes k =
    sym (take-append-drop h.total region) ∙ ap (λ (x : List ℕ). x ++ drop h.total region) (front_box region h bytes k)

-- the head as it is handed out
pub public_head : (bytes kind : List ℕ) (at : ℕ) (h : Front) → kind ≡ to_be_bytes w32 h.kind
    → IsHead (take (length bytes - at) (drop at bytes)) h
    → (box_head_fault at (drop at bytes) ≡ None) × (record { header = h.header; total = h.total; kind = kind } ≡ told_head (drop at bytes))
public_head bytes kind at h kind_is k =
    let r : IsHead (drop at bytes) h = subst (λ (x : List ℕ). IsHead x h) (take_rest bytes at) k in (
      good_at 0 at (drop at bytes) r.good,
      ap (λ n. record { header = n; total = h.total; kind = kind }) r.header
          ∙ ap (λ n. record { header = head_len (tells_wide (drop at bytes)); total = n; kind = kind }) r.total
          ∙ ap
          (λ (x : List ℕ). record { header = head_len (tells_wide (drop at bytes)); total = told_total (drop at bytes); kind = x })
          kind_is
          ∙ ap (λ n. record { header = head_len (tells_wide (drop at bytes)); total = told_total (drop at bytes); kind = to_be_bytes w32 n }) r.kind,
    )
