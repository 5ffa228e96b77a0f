-- How `clap` walks over words that may be names: it takes all that fit.
use Rattle.std.proofs.Common.{◌≡◌, ◌∙◌, refl, sym, ap, ap₂, arith, ℕ, suc, ◌≤◌, ◌==◌, ◌&&◌, Bool, true, false, not, cond, nat_le, List, [], ◌∷◌, ◌++◌, length, append-nil, append_assoc, le-leb, Option, Some, None, true≢false}
use Rattle.std.specs.Prelude.{if◌then◌else◌, option_and_then, codes}
use Rattle.clap.specs.Lexer.{short_of, short_of_rest, usize_max}
use Rattle.std.specs.List.{fold, list_all}
use Rattle.std.specs.Option.{option_map_or}
use Rattle.clap.specs.Walk.{Held, Row, Rule, Step, Text, Waiting, Walk, after_step, arg_by_index, idle, is_multiple, next_position, nothing_held, positional, positional_held, short_or_plain, to_positional, value, walk_from, walked, word_met, finished}
use Rattle.clap.specs.Simple.{Shape, filled, with_index}
use Rattle.clap.specs.Takes.{bundle_passes, default_passes, is_valid, level_passes, positional_passes, settle_passes, step_passes, turn_passes, use_passes, value_passes, walk_passes, word_passes}
use Rattle.c2_usage.specs.CommandLine.{is_name}
use Rattle.c2_usage.specs.Parsing.{judge_words}
use Rattle.c2_lemmas.proofs.Bools.{both_true, not_true_is_false}

-- ---- names

-- what is held between two names, whether the last went to a positional that takes several, and which positional is next
pub record Stand : Type 0 where
  pub held : Held
  pub several : Bool
  pub position : ℕ

-- the walk waits for more of a positional, or for nothing
abbrev waiting_at : Bool → Waiting
waiting_at several = if several then positional else idle

-- the walk of `clap` there
abbrev pub as_walk : Stand → Walk
as_walk s =
    record { held = s.held; waiting = waiting_at s.several; position = s.position; is_trailing = false; stopped = None }

-- the walk of `clap` at a stand where it takes every word from there on as a value, or doesn't
abbrev trailing : Stand → Bool → Walk
trailing s t = record (as_walk s) { is_trailing = t }

-- before the first name
abbrev pub start : Stand
start = record { held = nothing_held; several = false; position = 1 }

-- after one more name, which goes to this positional
abbrev pub after : List Rule → Option Rule → Text → Stand → Stand
after c None word s = s
after c (Some a) word s =
    record { held = positional_held c a word s.held; several = is_multiple a; position = next_position a s.position }

-- after all names
abbrev pub goes : List Rule → Stand → List Text → Stand
goes c s [] = s
goes c s (word ∷ rest) = goes c (after c (arg_by_index c s.position) word s) rest

-- this positional takes one more name
abbrev pub takes_one : Shape → Stand → Option Rule → Bool
takes_one l s None = false
takes_one l s (Some a) = not a.trailing_var_arg && positional_passes l.rules l.args_override_self a s.held

-- each name goes to a positional that takes it
abbrev pub goes_well : Shape → Stand → List Text → Bool
goes_well l s [] = true
goes_well l s (word ∷ rest) =
    takes_one l s (arg_by_index l.rules s.position) && goes_well l
    (after l.rules (arg_by_index l.rules s.position) word s) rest

-- a name has no dash to take off
no_flags : (b : ℕ) (bs : Text) → (b == 45) ≡ false → short_of (b ∷ bs) ≡ None
no_flags b bs e = ap (λ (t : Bool). option_and_then short_of_rest (cond t (Some bs) None)) e

-- a name is no flag and no subcommand
met_name : (c : List Rule) (several : Bool) (p b : ℕ) (bs : Text) (h : Held) → (b == 45) ≡ false
    → ◌≡◌ {A = Held × Step} (word_met c [] false (waiting_at several) p (b ∷ bs) h) (h, value)
met_name c true p b bs h e = rw e (ap (λ (o : Option Text). short_or_plain c positional (b ∷ bs) o h) (no_flags b bs e))
met_name c false p b bs h e = rw e (ap (λ (o : Option Text). short_or_plain c idle (b ∷ bs) o h) (no_flags b bs e))

-- a name is no call for help
passes_name : (l : Shape) (several : Bool) (b : ℕ) (bs : Text) (h : Held) → (b == 45) ≡ false
    → word_passes l [] false (waiting_at several) (b ∷ bs) h ≡ true
passes_name l true b bs h e =
    rw e
    (ap (λ (o : Option Text). option_map_or (λ (flags : Text). bundle_passes l.rules l.args_override_self flags h) o true) (no_flags b bs e))
passes_name l false b bs h e =
    rw e
    (ap (λ (o : Option Text). option_map_or (λ (flags : Text). bundle_passes l.rules l.args_override_self flags h) o true) (no_flags b bs e))

-- the walk goes on with a name at a positional
walks_on : (l : Shape) (s : Stand) (b : ℕ) (bs : Text) (a : Rule) → (b == 45) ≡ false
    → arg_by_index l.rules s.position ≡ Some a → a.trailing_var_arg ≡ false
    → walked l.rules [] (as_walk s) (b ∷ bs) ≡ as_walk (after l.rules (Some a) (b ∷ bs) s)
unfolding walked
walks_on l s b bs a e at plain =
    ap (λ (m : Held × Step). after_step l.rules (b ∷ bs) (as_walk s) m.0 m.1)
    (met_name l.rules s.several s.position b bs s.held e)
    ∙ ap (λ (o : Option Rule). to_positional l.rules o (b ∷ bs) (as_walk s) s.held) at
    ∙ ap (trailing (after l.rules (Some a) (b ∷ bs) s)) plain

-- the walk passes with a name at a positional
turns : (l : Shape) (s : Stand) (b : ℕ) (bs : Text) (a : Rule) → (b == 45) ≡ false
    → arg_by_index l.rules s.position ≡ Some a → positional_passes l.rules l.args_override_self a s.held ≡ true
    → turn_passes l [] (as_walk s) (b ∷ bs) ≡ true
turns l s b bs a e at passes =
    ap
    (λ (m : Held × Step). word_passes l [] false (waiting_at s.several) (b ∷ bs) s.held && step_passes l s.position m.0 m.1)
    (met_name l.rules s.several s.position b bs s.held e)
    ∙ ap (λ (x : Bool). x && step_passes l s.position s.held value) (passes_name l s.several b bs s.held e)
    ∙ ap
    (λ (o : Option Rule). option_map_or (λ (r : Rule). positional_passes l.rules l.args_override_self r s.held) o false)
    at
    ∙ passes

-- names that go well are walked over
pub walks : (l : Shape) (s : Stand) (words : List Text) → list_all is_name words ≡ true → goes_well l s words ≡ true
    → (walk_passes l [] (as_walk s) words ≡ true) × (fold (walked l.rules []) (as_walk s) words ≡ as_walk (goes l.rules s words))
unfolding walk_passes
walks l s [] names well = (refl, refl)
walks l s ([] ∷ rest) names well = absurd (true≢false (sym names))
walks l s ((b ∷ bs) ∷ rest) names well =
    let named = both_true (not (b == 45)) (list_all is_name rest) names in
    go (not_true_is_false (b == 45) named.0) (arg_by_index l.rules s.position) refl
    (λ a. walks l (after l.rules (Some a) (b ∷ bs) s) rest named.1) well
  where
    Walked : Type 0
    Walked =
        (walk_passes l [] (as_walk s) ((b ∷ bs) ∷ rest) ≡ true)
        × (fold (walked l.rules []) (as_walk s) ((b ∷ bs) ∷ rest) ≡ as_walk (goes l.rules s ((b ∷ bs) ∷ rest)))

    Next : Rule → Type 0
    Next a = goes_well l (after l.rules (Some a) (b ∷ bs) s) rest ≡ true
        → (walk_passes l [] (as_walk (after l.rules (Some a) (b ∷ bs) s)) rest ≡ true)
        × (fold (walked l.rules []) (as_walk (after l.rules (Some a) (b ∷ bs) s)) rest ≡ as_walk (goes l.rules (after l.rules (Some a) (b ∷ bs) s) rest))

    go : (b == 45) ≡ false → (o : Option Rule) → arg_by_index l.rules s.position ≡ o → ((a : Rule) → Next a)
        → (takes_one l s o && goes_well l (after l.rules o (b ∷ bs) s) rest) ≡ true → Walked
    go e None at next w = absurd (true≢false (sym w))
    go e (Some a) at next w =
        let p = both_true (takes_one l s (Some a)) (goes_well l (after l.rules (Some a) (b ∷ bs) s) rest) w in
        let q = both_true (not a.trailing_var_arg) (positional_passes l.rules l.args_override_self a s.held) p.0 in
        let step = walks_on l s b bs a e at (not_true_is_false a.trailing_var_arg q.0) in
        let more = next a p.1 in (
          ap₂ (λ (x y : Bool). x && y) (turns l s b bs a e at q.1) (ap (λ (w : Walk). walk_passes l [] w rest) step ∙ more.0),
          ap (λ (w : Walk). fold (walked l.rules []) w rest) step ∙ more.1 ∙ ap (λ (o : Option Rule). as_walk (goes l.rules (after l.rules o (b ∷ bs) s) rest)) (sym at),
        )

-- nothing is missing after the last name
abbrev pub ends_well : Shape → Held → Bool
ends_well l end =
    settle_passes l.rules l.args_override_self end
    && (list_all default_passes l.rules && is_valid l (finished l.rules end) false)

-- names that go well and end well are taken
pub level : (l : Shape) (words : List Text) → list_all is_name words ≡ true
    → (goes_well l start words ≡ true) × (ends_well l (goes l.rules start words).held ≡ true)
    → level_passes l [] nothing_held words false ≡ true
level l words names well =
    let w = walks l start words names well.0 in
    ap (λ (k : Walk). walk_passes l [] (walk_from nothing_held) words && ends_well l k.held) w.1
    ∙ ap (λ (b : Bool). b && ends_well l (goes l.rules start words).held) w.0
    ∙ well.1

-- ---- names of judges

-- the positional of judges at this place, as it is built
abbrev pub judges_at : ℕ → Rule
judges_at k = with_index k (filled judge_words)

-- the walk stands so while names of judges come
abbrev pub judging : ℕ → List Row → List Text → Stand
judging k rows vs =
    record { held = record { rows = rows; pending = Some (codes "JUDGE", vs); skip = 0 }; several = true; position = k }

-- all texts go to the names of judges while they come
pub judges_go : (l : Shape) (k : ℕ) (rows : List Row) → arg_by_index l.rules k ≡ Some (judges_at k)
    → (vs ws : List Text)
    → (goes_well l (judging k rows vs) ws ≡ true) × (goes l.rules (judging k rows vs) ws ≡ judging k rows (vs ++ ws))
judges_go l k rows at vs [] = (refl, ap (judging k rows) (sym (append-nil vs)))
judges_go l k rows at vs (w ∷ ws) =
    let next = judges_go l k rows at (vs ++ w ∷ []) ws in (
      ap (λ (o : Option Rule). takes_one l (judging k rows vs) o && goes_well l (after l.rules o w (judging k rows vs)) ws) at ∙ next.0,
      ap (λ (o : Option Rule). goes l.rules (after l.rules o w (judging k rows vs)) ws) at ∙ next.1 ∙ ap (judging k rows) (append_assoc vs (w ∷ []) ws),
    )

-- any text may be a name
all_texts : (k : ℕ) (vs : List Text) → list_all (value_passes (judges_at k)) vs ≡ true
all_texts k [] = refl
all_texts k (v ∷ vs) = all_texts k vs

-- texts are used as names of judges
pub judges_used : (again : Bool) (k : ℕ) (rows : List Row) (j : Text) (js : List Text) → length js ≤ 64
    → use_passes again (judges_at k) (j ∷ js) rows ≡ true
judges_used again k rows j js few =
    let least : nat_le 1 (suc (length js)) ≡ true = le-leb 1 (suc (length js)) (omega arith) in
    let most : nat_le (suc (length js)) usize_max ≡ true = le-leb (suc (length js)) usize_max (omega (arith, few)) in
    rw (least, most) (all_texts k js)
