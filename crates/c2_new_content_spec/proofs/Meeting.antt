-- The file that a store is put into at a split meets the rules.
use Rattle.c2_new_content_spec.proofs.Holding.{store_holds}
use Rattle.c2_new_file_spec.proofs.StoreLaws.{a_bound_file_meets_the_rules}
use Rattle.std.proofs.Common.{ℕ, List, length}
use Rattle.c2_spec.specs.Jumbf.Tree.{tree_bytes}
use Rattle.c2_new_file_spec.specs.Built.{HasDigestLen}
use Rattle.c2_new_content_spec.specs.Meeting.{SplitFileMeets}
use Rattle.c2_new_content_spec.specs.Splits.{Split, binding_at, of_boxes, of_segments, split_file, split_len, split_start}
use Rattle.c2_new_content_spec.proofs.Bound.{bmff_met, segments_met}

-- the store is in the file, and its binding is met there
pub split_meets : SplitFileMeets
split_meets hash alg t base piece (of_segments front back number) qs digests can put unbound =
    let s : Split = of_segments front back number in
    let store : List ℕ = tree_bytes t in
    let len : ℕ = split_len s (length store) in
    let sized : HasDigestLen alg (hash alg) = λ text. (digests alg text).sized in
    a_bound_file_meets_the_rules hash (split_file base s piece) (split_start s) len t
    (binding_at (hash alg) alg base s len) qs unbound
    (store_holds base s store piece can put).located
    (segments_met hash alg store base piece front back number sized can put)
split_meets hash alg t base piece (of_boxes front back) qs digests can put unbound =
    let s : Split = of_boxes front back in
    let store : List ℕ = tree_bytes t in
    let len : ℕ = split_len s (length store) in
    let sized : HasDigestLen alg (hash alg) = λ text. (digests alg text).sized in
    a_bound_file_meets_the_rules hash (split_file base s piece) (split_start s) len t
    (binding_at (hash alg) alg base s len) qs unbound
    (store_holds base s store piece can put).located
    (bmff_met hash alg store base piece front back sized can put)
