-- What `clap`'s builders make of the command line, step by step.
use Rattle.std.proofs.Common.{◌≡◌, ◌∙◌, ap, ap₂, Bool, true, false, ◌||◌, refl, List, [], ◌∷◌, ◌++◌, ◌+◌, ◌<◌, ℕ, length, get_or, map, sym, take}
use Rattle.std.proofs.lemmas.List.{map-append, take_more}
use Rattle.clap.specs.Built.{AddsArg, AddsSubcommand}
use Rattle.clap.specs.Simple.{App, Shape, app_of, with_rule, with_subcommand}
use Rattle.clap.specs.Walk.{Rule, Text, rule_of}
use Rattle.clap.specs.declared.builder.arg.Arg.{Arg}
use Rattle.clap.specs.declared.builder.command.Command.{Command as Parser}
use Rattle.c2_usage.specs.Parsing.{IsLeaf, leaf, top}

-- a subcommand that is added comes last
pub added : (old sub new : Parser) (a : App) (s : Shape) → app_of old ≡ a → IsLeaf s sub → AddsSubcommand old sub new
    → app_of new ≡ with_subcommand a s
added old sub new a s is leaf adds = adds.shape leaf.globals ∙ ap₂ with_subcommand is (ap (λ (x : App). x.top) leaf.app)

-- words that are added come last
pub added_words : (name : Text) (rules : List Rule) (old new : Parser) (a : Arg) → IsLeaf (leaf name rules) old
    → AddsArg old a new → a.global ≡ false → IsLeaf (leaf name (rules ++ rule_of a ∷ [])) new
added_words name rules old new a is adds local = record {
  app = adds.shape local ∙ ap (λ x. with_rule x (rule_of a)) is.app;
  globals = adds.globals ∙ ap₂ (λ (x y : Bool). x || y) is.globals local;
}

-- the whole with these subcommands, as it is built so far: without one it is a leaf
abbrev pub whole : List Shape → App
whole [] = record { top = record top { is_leaf = true }; subs = [] }
whole (s ∷ ss) = record { top = top; subs = s ∷ ss }

-- one more
pub whole_more : (ss : List Shape) (s : Shape) → with_subcommand (whole ss) s ≡ whole (ss ++ s ∷ [])
whole_more [] s = refl
whole_more (t ∷ ss) s = refl

-- what is made of one more element comes last
pub made_more : {A B : Type 0} (f : A → B) (xs : List A) (i : ℕ) (d : A) → i < length xs
    → map f (take i xs) ++ f (get_or xs i d) ∷ [] ≡ map f (take (i + 1) xs)
made_more f xs i d below = sym (ap (map f) (take_more xs i d below) ∙ map-append f (take i xs) (get_or xs i d ∷ []))
