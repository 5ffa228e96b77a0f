-- The fields of a description as they are read; for private clauses.
use Rattle.std.specs.Prelude.{◌≡◌, ◌⊎◌, ◌<◌, true, false, Bool, ℕ, List, length, Option, is_some, IfSome, ◌++◌, ◌∷◌}
use Rattle.std.specs.Option.{option_map}
use denote.Ref.{Bor}
use Rattle.c2_jumbf.specs.declared.fields.Fields.{Fields}
use Rattle.c2_spec.specs.Jumbf.Tree.{PlainBox, IsPlainBox, private_bytes, Description, IsFields, IsLabel, description_payload}
use Rattle.c2_spec.specs.Jumbf.Faults.{IsNotOneBox}

-- the bytes of a text, where there is one
abbrev pub text_of : Option (Bor (List ℕ)) → Option (List ℕ)
text_of t = option_map (λ x. x.now) t

-- the label as it is read
abbrev pub read_label : Fields → Option (List ℕ)
read_label f = text_of f.label

-- a payload is that of a description with the label that was read
pub record HasFields (payload : List ℕ) (f : Fields) : Type 0 where
  pub description : Description
  pub legal : IsFields description
  pub bytes : payload ≡ description_payload description
  pub label : description.label ≡ read_label f

-- the bytes are a label, a zero byte and a rest
pub record HasLabel (bytes label rest : List ℕ) : Type 0 where
  pub legal : IsLabel label
  pub split : bytes ≡ label ++ 0 ∷ rest

-- the bytes are the private box that the toggle shows, or nothing
pub record IsPrivate (on : Bool) (bytes : List ℕ) (box : Option PlainBox) : Type 0 where
  pub shown : is_some box ≡ on
  pub legal : IfSome box IsPlainBox
  pub split : bytes ≡ private_bytes box

-- what should be a private box, or nothing, isn't
abbrev pub IsNoPrivate : Bool → List ℕ → Type 0
IsNoPrivate on bytes = ((on ≡ true) × IsNotOneBox bytes) ⊎ ((on ≡ false) × (0 < length bytes))
