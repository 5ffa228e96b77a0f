use Rattle.std.proofs.Common.{◌≡◌, Bool, true, false, cond, ◌||◌, ◌∙◌, ap, refl, bytes_eq}
use Rattle.std.specs.String.{string_bytes}
use Rattle.std.proofs.lemmas.Map.Text.{btree_set_updates_text}
use Rattle.c2_label_index.specs.Labels.{is_among}
use Rattle.c2_label_index.proofs.labels.add_label.Goals as goal

-- "true if this, else that" is "this or that"
cond-or : (b a : Bool) → cond b true a ≡ (a || b)
cond-or true true = refl
cond-or true false = refl
cond-or false true = refl
cond-or false false = refl

-- the set has what it had, and this label
pub returns : goal.returns
returns c = λ other.
    btree_set_updates_text (string_bytes c.in_ok-text.text) c.args.labels.now.texts c.insert.new.self true
    c.in_ok-insert.ensures.updates other
    ∙ cond-or (bytes_eq (string_bytes c.in_ok-text.text) other) (is_among c.args.labels.now other)
    ∙ ap (λ s. is_among c.args.labels.now other || bytes_eq s other) c.in_ok-text.ensures.ok
