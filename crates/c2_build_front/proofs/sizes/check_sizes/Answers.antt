use Rattle.std.proofs.Common.{arith}
use Rattle.c2_build_front.proofs.First.{boxes_first, file_first}
use Rattle.c2_build_front.proofs.sizes.check_sizes.Goals as goal

-- the file is too long
pub returns-then-file_len-ge-FILE_LEN_LIMIT-clause-refused : goal.returns-then-file_len-ge-FILE_LEN_LIMIT-clause-refused
returns-then-file_len-ge-FILE_LEN_LIMIT-clause-refused c =
    λ store small. file_first store c.args.file_len c.args.boxes small (omega (arith, c.if-file_len-ge-FILE_LEN_LIMIT.true))

-- it has too many root boxes
pub returns-then-boxes-ge-MAX_ROOT_BOXES-clause-refused : goal.returns-then-boxes-ge-MAX_ROOT_BOXES-clause-refused
returns-then-boxes-ge-MAX_ROOT_BOXES-clause-refused c =
    λ store small. boxes_first store c.args.file_len c.args.boxes small (omega (arith, c.if-file_len-ge-FILE_LEN_LIMIT.false)) (omega (arith, c.if-boxes-ge-MAX_ROOT_BOXES.true))
