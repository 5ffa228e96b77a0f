-- A difference that was found, as it is printed.
use Rattle.std.specs.Prelude.{◌≡◌, ℕ, List, Option, find, option_map}
use Rattle.c2_spec.specs.C2pa.Uri.{whole, signature}
use Rattle.c2_rules.specs.Ingredients.{assertion_uri}
use Rattle.c2_rules.specs.Rules.{box_uri}
use Rattle.c2_compare_spec.specs.Evidence.{ListPair, do_differ}
use Rattle.c2_compare_evidence.specs.Shown.{ShownBy, by_name, by_box, ShownPair, shown}
use Rattle.c2_compare_evidence.specs.declared.lists.Binder.{Binder}
use Rattle.c2_compare_evidence.specs.declared.lists.Binder.TheVariants as binder
use Rattle.c2_compare_evidence.specs.declared.lists.Location.{Location}
use Rattle.c2_compare_evidence.specs.declared.lists.Location.TheVariants as location
use Rattle.c2_compare_evidence.specs.declared.lists.Difference.{Difference}

-- what binds the lists
abbrev pub binder_view : Binder → ShownBy
binder_view (binder.Digest name) = by_name name.now
binder_view (binder.Signature contents) = by_box contents.now

-- where the left one stands
abbrev pub location_view : Location → List ℕ
location_view (location.Assertion manifest label) = assertion_uri manifest.now label.now
location_view (location.Signature manifest) = box_uri manifest.now signature
location_view (location.Whole manifest) = box_uri manifest.now whole

-- the difference as it is printed
abbrev pub view : Difference → ShownPair
view d = record {
  bound_by = binder_view d.bound_by;
  location = location_view d.location;
  left = d.left.now;
  right = d.right.now;
}

-- what was found is what is printed of the first of these pairs whose lists differ
abbrev pub IsFirstOf : List ListPair → Option Difference → Type 0
IsFirstOf pairs found = option_map view found ≡ option_map shown (find do_differ pairs)
