use Rattle.std.proofs.Common.{◌≡◌, ◌≤◌, true, take}
use Rattle.std.specs.Char.{is_ascii_digit}
use Rattle.std.specs.List.{list_all}
use Rattle.std.specs.Str.Parse.{digits_value}
use Rattle.c2_bmff_paths.proofs.paths.number_in.Given as goal

-- the bytes so far are digits, and the value is the number that they write, which isn't too great
abbrev pub invariant-loop-byte : goal.invariant-loop-byte
invariant-loop-byte l = record {
  all : list_all is_ascii_digit (take l.byte-index l.digits) ≡ true;
  value : l.value ≡ digits_value 10 (take l.byte-index l.digits);
  small : l.value ≤ 1048576;
}
