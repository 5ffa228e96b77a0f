-- What is put into a file of a new store, and what is written with it.
use Rattle.std.specs.Prelude.{◌≡◌, ℕ, ◌+◌, ◌≤◌, Bool, true, IfErr, List, length}
use Rattle.std.specs.declared.option.Option.{Option}
use Rattle.std.specs.declared.result.Result.{Result}
use Rattle.std.specs.declared.result.Result.TheVariants.{Ok, Err}
use Rattle.std.specs.Option.{ForSome}
use Rattle.c2_base.specs.declared.limits.TheConstants.{MAX_STORE_LEN}
use Rattle.c2_copying.specs.Writing.{IsOverSpare, IsWhole, ending_of}
use Rattle.c2_copying.specs.declared.copying.CopyError.{CopyError}
use Rattle.c2_copying.specs.declared.copying.CopyError.TheVariants as copying
use Rattle.c2_spec.specs.Bmff.Boxes.{box_bytes}
use Rattle.c2_spec.specs.Bmff.Writing.{c2pa_box}
use Rattle.c2_spec.specs.Jpeg.Writing as jpeg
use Rattle.c2_spec.specs.PutIn.{put_in}
use Rattle.c2_build_refusals.specs.declared.types.Draft.{Draft}
use Rattle.c2_build_refusals.specs.declared.types.Put.{Put}
use Rattle.c2_build_refusals.specs.declared.error.BuildError.{BuildError}
use Rattle.c2_build_refusals.specs.declared.error.BuildError.TheVariants.{ReadFault, WriteFault}

-- ---- what is put in

-- what is put in of a store
abbrev pub put_of : Put → List ℕ → List ℕ
put_of (Put.Packets en) store = jpeg.packets_bytes store en
put_of Put.Box store = box_bytes (c2pa_box store)

-- a base with what is put in of a store by these numbers
abbrev pub put_file : Draft → List ℕ → List ℕ → List ℕ
put_file f store base = put_in f.start (put_of f.put store) base

-- how long it is then, whatever the base's bytes are
abbrev pub put_file_len : Draft → List ℕ → ℕ
put_file_len f store = length (put_of f.put store) + f.size

-- the most bytes that are put in of a store: those of the packets of the longest store that may be
abbrev pub most_put : ℕ
most_put = jpeg.segments_len MAX_STORE_LEN

-- A store can be put by these numbers into a base of this length, whatever is known of its bytes: it can go into packets or into a box, and the
-- place lies in the base.
pub record CanPut (len : ℕ) (bytes : List ℕ) (f : Draft) : Type 0 where
  pub store : jpeg.IsPacketStore bytes
  pub size : f.size ≡ len
  pub inside : f.start ≤ f.size

-- ---- what is written

-- whether the sink is finished, before and after: where all was written it is, and else as before
abbrev pub Finishes : {T : Type 0} → Bool → Bool → Result T CopyError → Type 0
Finishes before now (Ok x) = now ≡ true
Finishes before now (Err e) = now ≡ before

-- What a call has done to its sink that appends a file of this length over a base, and says that nothing follows: where the base's bytes are
-- known, this file was appended, or a prefix of it; whatever is known, a sink that failed states no spare that holds so many bytes; and the
-- sink is finished just where all was appended.
pub record WritesOver {K T : Type 0} (written : K → Option (List ℕ)) (spare : K → Option ℕ) (finished : K → Bool) (file_over : List ℕ → List ℕ)
    (len : ℕ) (known : Option (List ℕ)) (old new : K) (result : Result T CopyError) : Type 0 where
  pub whole : ForSome known (λ base. IsWhole written spare finished (file_over base) old new result)
  pub over : IfErr result (λ e. IsOverSpare (ending_of e) (spare old) len)
  pub finish : Finishes (finished old) (finished new) result

-- the fault of a build that a fault of a copy is
abbrev pub copy_fault_of : CopyError → BuildError
copy_fault_of copying.ReadFault = ReadFault
copy_fault_of copying.WriteFault = WriteFault
