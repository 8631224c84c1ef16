-- What a call that isn't refused has passed.
use Rattle.std.proofs.Common.{◌≡◌, Bool, true, false, not, ◌&&◌, ◌||◌, List, ◌∷◌, refl, sym, true≢false}
use Rattle.std.specs.Prelude.{Option, Some, None, Result, Ok, Err, if◌then◌else◌}
use Rattle.std.specs.Bool.{then_some}
use Rattle.f2_model.specs.Tree.{Rows, is_directory}
use Rattle.f2_model.specs.Lists.{first_some}
use Rattle.f2_model.specs.Call.{refusal, refusal_of, to_directory, has_bad_name, walk_refusal, names_directory, name_is_there, has_entries, is_too_big}
use Rattle.f2_model.specs.declared.bounds.Limits.{Limits}
use Rattle.f2_model.specs.declared.rows.Row.{Row}
use Rattle.f2_model.specs.declared.rows.Kind.{Kind}
use Rattle.f2_model.specs.declared.rows.Kind.TheVariants.{Regular, Directory}
use Rattle.f2_model.specs.declared.requests.Request.{Request}
use Rattle.f2_model.specs.declared.replies.Reply.{Reply}
use Rattle.f2_model.specs.declared.replies.Reply.TheVariants.{BadName, IsDir, Exists, NotEmpty, TooBig, NotDir}
use Rattle.f2_laws.proofs.Walks.{some_none}

-- each test that a call passed
pub record Passed (limits : Limits) (tree : Rows) (request : Request) : Type 0 where
  pub good_name : has_bad_name request ≡ false
  pub walks : walk_refusal tree request ≡ None
  pub file : names_directory tree request ≡ false
  pub free_name : name_is_there tree request ≡ false
  pub empty : has_entries tree request ≡ false
  pub fits : is_too_big limits tree request ≡ false

pub none_first : (o : Option Reply) (rest : List (Option Reply)) → first_some (o ∷ rest) ≡ None → (o ≡ None) × (first_some rest ≡ None)
none_first None rest h = (refl, h)
none_first (Some refused) rest h = absurd (some_none h)

not_then : {A : Type 0} (b : Bool) (a : A) → then_some b a ≡ None → b ≡ false
not_then true a h = absurd (some_none h)
not_then false a h = refl

pub passed : (limits : Limits) (tree : Rows) (request : Request) → refusal limits tree request ≡ None → Passed limits tree request
passed limits tree request h =
    let name = none_first _ _ h in
    let walks = none_first _ _ name.1 in
    let file = none_first _ _ walks.1 in
    let there = none_first _ _ file.1 in
    let entries = none_first _ _ there.1 in
    let big = none_first _ _ entries.1 in
    record {
      good_name = not_then (has_bad_name request) BadName name.0;
      walks = walks.0;
      file = not_then (names_directory tree request) IsDir file.0;
      free_name = not_then (name_is_there tree request) Exists there.0;
      empty = not_then (has_entries tree request) NotEmpty entries.0;
      fits = not_then (is_too_big limits tree request) TooBig big.0;
    }

-- a walk that isn't refused ends at a row
pub walk_ok : (end : Result Row Reply) → refusal_of end ≡ None → (row : Row) × (end ≡ Ok row)
walk_ok (Ok row) h = (row, refl)
walk_ok (Err refused) h = absurd (some_none h)

pub directory_ok : (end : Result Row Reply) → refusal_of (to_directory end) ≡ None → (row : Row) × (end ≡ Ok row) × (row.kind ≡ Directory)
directory_ok (Err refused) h = absurd (some_none h)
directory_ok (Ok row) h = by_kind row.kind refl h
  where
    by_kind : (kind : Kind) → row.kind ≡ kind → refusal_of (if is_directory kind then Ok row else Err NotDir) ≡ None → (one : Row) × (◌≡◌ {A = Result Row Reply} (Ok row) (Ok one)) × (one.kind ≡ Directory)
    by_kind Directory e h = (row, refl, e)
    by_kind Regular e h = absurd (some_none h)

pub regular : (kind : Kind) → is_directory kind ≡ false → kind ≡ Regular
regular Regular h = refl
regular Directory h = absurd (true≢false h)

pub kinds_differ : Regular ≡ Directory → ⊥
kinds_differ e = cc

pub either_false : (a b : Bool) → (a || b) ≡ false → (a ≡ false) × (b ≡ false)
either_false false false e = (refl, refl)
either_false true b e = absurd (true≢false e)
either_false false true e = absurd (true≢false e)

pub both_true : (a b : Bool) → (a && b) ≡ true → (a ≡ true) × (b ≡ true)
both_true true true e = (refl, refl)
both_true true false e = absurd (true≢false (sym e))
both_true false b e = absurd (true≢false (sym e))

pub not_false : (b : Bool) → not b ≡ false → b ≡ true
not_false true e = refl
not_false false e = absurd (true≢false e)
