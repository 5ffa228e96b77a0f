-- What is left of the sources: of those that a command reads, of those that it doesn't, and by the status of the run.
use Rattle.std.proofs.Common.{◌≡◌, ℕ, List, Option}
use Rattle.std.specs.Prelude.{Result}
use Rattle.c2_base.specs.Source.{ReadsSource}
use Rattle.c2_build_endings.specs.Sources.{SourceUse, use_of}
use Rattle.c2_spec.specs.Judges.Panel.{Judges, LeavesJudges}
use Rattle.c2_cmd.specs.Left.{KeepsJudges, KeepsSources, LeavesSource, LeavesSources}
use Rattle.c2_cmd.proofs.Keeping.{idle_source, kept_source}
use Rattle.c2_cmd_outcome.specs.Reply.{end_of}
use Rattle.c2_cmd_outcome.specs.declared.reply.Fault.{Fault}
use Rattle.c2_cmd_outcome.specs.declared.reply.Reply.{Reply}
use Rattle.c2_cmd_outcome.specs.declared.types.Status.{Status}
use Rattle.c2_cmd_outcome.specs.declared.types.Status.TheVariants.{OutputFault}

-- one that it reads
read_source : {S : Type 0} {len : S → ℕ} {known : S → Option (List ℕ)} {faults : S → ℕ} {Cause : ℕ → ℕ → Fault → Type 0}
    {old new : S} {r : Result Reply Fault} → ReadsSource len known faults Cause old new r
    → LeavesSource len known faults old new r
read_source h = record { stays = h.stays; quiet = h.quiet }

module _ {A B C D : Type 0} {len_a : A → ℕ} {known_a : A → Option (List ℕ)} {faults_a : A → ℕ} {len_b : B → ℕ}
    {known_b : B → Option (List ℕ)} {faults_b : B → ℕ} {len_c : C → ℕ} {known_c : C → Option (List ℕ)}
    {faults_c : C → ℕ} {len_d : D → ℕ} {known_d : D → Option (List ℕ)} {faults_d : D → ℕ} {r : Result Reply Fault}
  where
    -- none of the four
    pub read_none : {a : A} {b : B} {c : C} {d : D} → LeavesSources (use_of len_a known_a faults_a a a)
        (use_of len_b known_b faults_b b b) (use_of len_c known_c faults_c c c) (use_of len_d known_d faults_d d d) r
    read_none = record {
      media = idle_source _ _ _ _ _;
      second = idle_source _ _ _ _ _;
      third = idle_source _ _ _ _ _;
      fourth = idle_source _ _ _ _ _;
    }

    -- the media alone
    pub read_media : {P : ℕ → ℕ → Fault → Type 0} {a a' : A} {b : B} {c : C} {d : D}
        → ReadsSource len_a known_a faults_a P a a' r
        → LeavesSources (use_of len_a known_a faults_a a a') (use_of len_b known_b faults_b b b)
        (use_of len_c known_c faults_c c c) (use_of len_d known_d faults_d d d) r
    read_media first = record {
      media = read_source first;
      second = idle_source _ _ _ _ _;
      third = idle_source _ _ _ _ _;
      fourth = idle_source _ _ _ _ _;
    }

    -- the media and the second file
    pub read_two : {P Q : ℕ → ℕ → Fault → Type 0} {a a' : A} {b b' : B} {c : C} {d : D}
        → ReadsSource len_a known_a faults_a P a a' r → ReadsSource len_b known_b faults_b Q b b' r
        → LeavesSources (use_of len_a known_a faults_a a a') (use_of len_b known_b faults_b b b')
        (use_of len_c known_c faults_c c c) (use_of len_d known_d faults_d d d) r
    read_two first second = record {
      media = read_source first;
      second = read_source second;
      third = idle_source _ _ _ _ _;
      fourth = idle_source _ _ _ _ _;
    }

    -- these and the third
    pub read_three : {P Q R : ℕ → ℕ → Fault → Type 0} {a a' : A} {b b' : B} {c c' : C} {d : D}
        → ReadsSource len_a known_a faults_a P a a' r → ReadsSource len_b known_b faults_b Q b b' r
        → ReadsSource len_c known_c faults_c R c c' r
        → LeavesSources (use_of len_a known_a faults_a a a') (use_of len_b known_b faults_b b b')
        (use_of len_c known_c faults_c c c') (use_of len_d known_d faults_d d d) r
    read_three first second third = record {
      media = read_source first;
      second = read_source second;
      third = read_source third;
      fourth = idle_source _ _ _ _ _;
    }

    -- all but the third
    pub read_pair : {P Q R : ℕ → ℕ → Fault → Type 0} {a a' : A} {b b' : B} {c : C} {d d' : D}
        → ReadsSource len_a known_a faults_a P a a' r → ReadsSource len_b known_b faults_b Q b b' r
        → ReadsSource len_d known_d faults_d R d d' r
        → LeavesSources (use_of len_a known_a faults_a a a') (use_of len_b known_b faults_b b b')
        (use_of len_c known_c faults_c c c) (use_of len_d known_d faults_d d d') r
    read_pair first second fourth = record {
      media = read_source first;
      second = read_source second;
      third = idle_source _ _ _ _ _;
      fourth = read_source fourth;
    }

    -- all four
    pub read_all : {P Q R S : ℕ → ℕ → Fault → Type 0} {a a' : A} {b b' : B} {c c' : C} {d d' : D}
        → ReadsSource len_a known_a faults_a P a a' r → ReadsSource len_b known_b faults_b Q b b' r
        → ReadsSource len_c known_c faults_c R c c' r → ReadsSource len_d known_d faults_d S d d' r
        → LeavesSources (use_of len_a known_a faults_a a a') (use_of len_b known_b faults_b b b')
        (use_of len_c known_c faults_c c c') (use_of len_d known_d faults_d d d') r
    read_all first second third fourth = record {
      media = read_source first;
      second = read_source second;
      third = read_source third;
      fourth = read_source fourth;
    }

-- ---- by the status of the run

-- what is left of them by the status that the result leads to
pub kept_sources : {A B C D : Type 0} {a : SourceUse A} {b : SourceUse B} {c : SourceUse C} {d : SourceUse D}
    {r : Result Reply Fault} {s : Status} → end_of r ≡ s → LeavesSources a b c d r → KeepsSources a b c d s
kept_sources ends leaves = record {
  media = kept_source ends leaves.media;
  second = kept_source ends leaves.second;
  third = kept_source ends leaves.third;
  fourth = kept_source ends leaves.fourth;
}

-- and where the report fails behind it
pub untold_sources : {A B C D : Type 0} {a : SourceUse A} {b : SourceUse B} {c : SourceUse C} {d : SourceUse D}
    {r : Result Reply Fault} → LeavesSources a b c d r → KeepsSources a b c d OutputFault
untold_sources leaves = record {
  media = record { stays = leaves.media.stays; quiet = tt };
  second = record { stays = leaves.second.stays; quiet = tt };
  third = record { stays = leaves.third.stays; quiet = tt };
  fourth = record { stays = leaves.fourth.stays; quiet = tt };
}

-- what is left of the judges then
pub untold_panel : {old new : Judges} {r : Result Reply Fault} → LeavesJudges old new r
    → KeepsJudges old new OutputFault
untold_panel leaves = record {
  same = leaves.same;
  asked_later = leaves.asked_later;
  faults_later = leaves.faults_later;
  quiet = tt;
}
