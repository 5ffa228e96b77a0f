-- What is known of a new file of the host: whether it can't be made, whether it is finished, and how often it failed.
use Rattle.std.specs.Prelude.{ℕ, List, Bool, true, false, None}
use Rattle.std.specs.declared.option.Option.{Option}
use Rattle.c2_base.specs.declared.host.HostSink.{HostSink}
use Rattle.c2_base.specs.declared.host.Making.{Making}
use Rattle.c2_base.specs.declared.host.Making.TheVariants.{Absent, Named, Made}

-- there is no such file, and none will be made
abbrev pub is_absent_file : {R : Type 0} → Making R → Bool
is_absent_file Absent = true
is_absent_file (Named rt name) = false
is_absent_file (Made file) = false

-- the sink has no file, and will have none
abbrev pub is_absent : {R : Type 0} → HostSink R → Bool
is_absent s = is_absent_file s.file

-- nothing follows
abbrev pub is_finished : {R : Type 0} → HostSink R → Bool
is_finished s = s.finished

-- how often a call on it failed
abbrev pub sink_faults : {R : Type 0} → HostSink R → ℕ
sink_faults s = s.faults

-- no bytes of a host sink are known
abbrev pub sink_written : {R : Type 0} → HostSink R → Option (List ℕ)
sink_written s = None

-- a host sink doesn't state what it surely takes
abbrev pub sink_spare : {R : Type 0} → HostSink R → Option ℕ
sink_spare s = None
