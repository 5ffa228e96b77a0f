-- A piece after what a buffer or a written text holds already.
use Rattle.std.proofs.Common.{◌≡◌, refl, ap, ◌∙◌, ℕ, ◌+◌, ◌-◌, ◌≤◌, List, ◌++◌, length, take, drop, arith}
use Rattle.std.proofs.Math.Seq.{take-add, take-append-add}
use Rattle.std.proofs.lemmas.List.{length-take-le, length-drop, take_all, take_at, drop-drop, append_assoc}
use Rattle.std.specs.declared.option.Option.{Option}
use Rattle.std.specs.declared.option.Option.TheVariants.{Some, None}
use Rattle.c2_base.specs.Sink.{then_written, spare_less}
use Rattle.c2_base.proofs.Written.{spare_less_two}

-- what a read puts after the `d` bytes that were read before
pub take_more-read : (bytes buf old piece post : List ℕ) (pos d n : ℕ) → d ≤ length buf
    → take d buf ≡ take d (drop pos bytes) → n ≤ length bytes - (pos + d) → piece ≡ take n (drop (pos + d) bytes) ++ old
    → take (d + n) (take d buf ++ (piece ++ post)) ≡ take (d + n) (drop pos bytes)
take_more-read bytes buf old piece post pos d n in_buf front in_bytes is =
    let size : length (take d buf) ≡ d = length-take-le d buf in_buf in
    let rest : n ≤ length (drop (pos + d) bytes) = omega (arith, length-drop (pos + d) bytes) in
    let behind : take (length (take d buf) + n) (take d buf ++ (piece ++ post)) ≡ take d buf ++ take n (piece ++ post) =
    take-append-add (take d buf) (piece ++ post) n in
    let joined : (take n (drop (pos + d) bytes) ++ old) ++ post ≡ take n (drop (pos + d) bytes) ++ (old ++ post) =
    append_assoc (take n (drop (pos + d) bytes)) old post in
    let new : take n (take n (drop (pos + d) bytes) ++ (old ++ post)) ≡ take n (drop (pos + d) bytes) =
    take_at (take n (drop (pos + d) bytes)) (old ++ post) n (length-take-le n (drop (pos + d) bytes) rest) in
    let all : take (d + n) (drop pos bytes) ≡ take d (drop pos bytes) ++ take n (drop d (drop pos bytes)) =
    take-add d n (drop pos bytes) in
    let twice : drop d (drop pos bytes) ≡ drop (pos + d) bytes = drop-drop d pos bytes in
    cc

-- what an append puts after the `d` bytes that were written before
pub then_written-more : (written : Option (List ℕ)) (bytes : List ℕ) (d n : ℕ)
    → then_written (then_written written (take d bytes)) (take n (drop d bytes)) ≡ then_written written (take (d + n) bytes)
then_written-more None bytes d n = refl
then_written-more (Some w) bytes d n =
    let all : take (d + n) bytes ≡ take d bytes ++ take n (drop d bytes) = take-add d n bytes in
    let joined : (w ++ take d bytes) ++ take n (drop d bytes) ≡ w ++ (take d bytes ++ take n (drop d bytes)) =
    append_assoc w (take d bytes) (take n (drop d bytes)) in
    cc

-- a step of a loop that appends `bytes` piece by piece: w0 was written before the loop, w1 before the turn, w2 after it
pub written_step : (bytes : List ℕ) (d n : ℕ) (w0 w1 w2 : Option (List ℕ)) → w1 ≡ then_written w0 (take d bytes)
    → w2 ≡ then_written w1 (take n (take (length bytes - d) (drop d bytes))) → w2 ≡ then_written w0 (take (d + n) bytes)
written_step bytes d n w0 w1 w2 before call =
    let piece : take (length bytes - d) (drop d bytes) ≡ drop d bytes =
    take_all _ _ (omega (arith, length-drop d bytes)) in
    call ∙ ap (λ p. then_written w1 (take n p)) piece ∙ ap (λ w. then_written w (take n (drop d bytes))) before
    ∙ then_written-more w0 bytes d n

-- a step of a loop that appends `bytes` piece by piece: the spare was s0 before the loop, s1 before the turn, s2 after it
pub spare_step : (bytes : List ℕ) (d n : ℕ) (s0 s1 s2 : Option ℕ) → n ≤ length (take (length bytes - d) (drop d bytes))
    → s1 ≡ spare_less s0 d → s2 ≡ spare_less s1 (length (take n (take (length bytes - d) (drop d bytes))))
    → s2 ≡ spare_less s0 (d + n)
spare_step bytes d n s0 s1 s2 in_piece before call =
    let size : length (take n (take (length bytes - d) (drop d bytes))) ≡ n = length-take-le n _ in_piece in
    call ∙ ap (λ k. spare_less s1 k) size ∙ ap (λ s. spare_less s n) before ∙ spare_less_two s0 d n

-- a vector whose elements were filled as a buffer of the bytes' length
pub filled_whole : (buf items bytes result : List ℕ) (len : ℕ) → length buf ≡ len → length bytes ≡ len
    → buf ≡ take (length buf) bytes → result ≡ take len (buf ++ drop (length buf) items) → result ≡ bytes
filled_whole buf items bytes result len size all is result_is =
    result_is ∙ take_at buf (drop (length buf) items) len size ∙ is ∙ take_all (length buf) bytes (omega arith)
