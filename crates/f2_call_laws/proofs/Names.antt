-- The dentries of a directory whose rows stay where they stand.
use Rattle.std.proofs.Common.{ℕ, List, is_some, sym, ap, ◌∙◌}
use Rattle.std.specs.List.{slice_get}
use Rattle.f2_format.specs.Dentry.{Dentry}
use Rattle.f2_model.specs.Tree.{Rows}
use Rattle.f2_image.specs.Faults.{type_of_kind}
use Rattle.f2_stored.specs.Places.{Places, IsDentryAt, IsBound, HasNames}
use Rattle.f2_call_laws.specs.Calls.{KeepsNames}

module _ (tree after : Rows) (places now : Places) (directory : ℕ) (keeps : KeepsNames tree after places now directory) (was : HasNames tree places directory) where
  -- a dentry is where it was
  before : (page place : ℕ) (dentry : Dentry) → IsDentryAt now directory page place dentry → IsDentryAt places directory page place dentry
  before page place dentry at = record {
    page_there = sym (ap is_some (keeps.pages page)) ∙ at.page_there;
    is = ap (λ (list : List Dentry). slice_get list place) (sym (keeps.dentries page)) ∙ at.is;
  }

  still : (page place : ℕ) (dentry : Dentry) → IsDentryAt places directory page place dentry → IsDentryAt now directory page place dentry
  still page place dentry at = record {
    page_there = ap is_some (keeps.pages page) ∙ at.page_there;
    is = ap (λ (list : List Dentry). slice_get list place) (keeps.dentries page) ∙ at.is;
  }

  bound : (dentry : Dentry) → IsBound tree directory dentry → IsBound after directory dentry
  bound dentry one =
      let stands = keeps.stay dentry.ino one.row one.there one.below one.parent in
      record {
        row = stands.same;
        there = stands.there;
        below = one.below;
        parent = stands.parent ∙ one.parent;
        named = stands.name ∙ one.named;
        typed = one.typed ∙ ap type_of_kind (sym stands.kind);
      }

  pub names_stay : HasNames after now directory
  names_stay = record {
    bound = λ page place dentry at. bound dentry (was.bound page place dentry (before page place dentry at));
    all = λ ino row there below parent.
        (let stood = keeps.stood ino row there below parent in
        let one = was.all ino stood.same stood.there below (stood.parent ∙ parent) in
        (one.0, one.1, (one.2.0, still one.0 one.1 one.2.0 one.2.1, one.2.2)));
    once = λ page place other more a b at too same. was.once page place other more a b (before page place a at) (before other more b too) same;
  }
