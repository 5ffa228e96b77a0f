-- What is known of a file of the host: its length, how often it failed, and whether there is one.
use Rattle.std.specs.Prelude.{◌≡◌, ℕ, Bool, is_none}
use Rattle.c2_base.specs.declared.host.HostFile.{HostFile}

-- there is no file of this name
abbrev pub is_absent : HostFile → Bool
is_absent f = is_none f.file

-- the length in bytes that the file had when it was opened
abbrev pub file_len : HostFile → ℕ
file_len f = f.length

-- how often a call on it failed
abbrev pub file_faults : HostFile → ℕ
file_faults f = f.faults

-- a host file before and after a call: it is absent after it just when it was before, and as long as before
pub record SameFile (old new : HostFile) : Type 0 where
  pub absent : is_absent new ≡ is_absent old
  pub len : file_len new ≡ file_len old
