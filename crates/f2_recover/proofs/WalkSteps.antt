-- The queue of rows is walked row by row: the directories before some place of it are done.
use Rattle.std.proofs.Common.{◌≡◌, ◌≢◌, ◌⊎◌, inl, inr, ℕ, ◌+◌, ◌<◌, ◌≤◌, true, false, List, [], length, refl, sym, ap, ◌∙◌, subst, arith}
use Rattle.std.specs.Prelude.{Some, slice_index_or}
use Rattle.std.specs.FinMap as map
use Rattle.std.specs.FinSet as set
use Rattle.std.proofs.lemmas.Bool.{cases_eq}
use Rattle.f2_format.specs.Geometry.{ImageGeometry}
use Rattle.f2_model.specs.Tree.{most_depth}
use Rattle.f2_model.specs.declared.rows.Kind.{Kind}
use Rattle.f2_model.specs.declared.rows.Kind.TheVariants.{Regular, Directory}
use Rattle.f2_image.specs.Images.{Image}
use Rattle.f2_image.specs.Packs.{Checkpoint}
use Rattle.f2_image.proofs.OneBase.{same_some}
use Rattle.f2_recover.specs.Walking.{BaseRows, HasRow, IsWalkedTo, IsWalked, IsQueue, IsLonger}
use Rattle.f2_recover.specs.declared.rows.BaseRow.{BaseRow}
use Rattle.f2_recover.specs.declared.walk.Walk.{Walk}
use Rattle.f2_recover.proofs.QueueLengths.{place_of}
use Rattle.f2_recover.proofs.Sets.{Numbers, not_both, not_true, here, stays, one_of}

-- an ino has the row of a directory
abbrev pub HasDirectory : BaseRows → ℕ → Type 0
HasDirectory rows ino = HasRow rows ino (λ row. row.file.kind ≡ Directory)

-- what is done are the directories of the queue before a place
pub record AreDone (rows : BaseRows) (order : List ℕ) (next : ℕ) (done : Numbers) : Type 0 where
  pub each : (ino : ℕ) → set.contains done ino ≡ true → (k : ℕ) × ((k < next) × (slice_index_or order k 0 ≡ ino))
  pub all : (k : ℕ) → k < next → HasDirectory rows (slice_index_or order k 0) → set.contains done (slice_index_or order k 0) ≡ true

-- the base was walked as far as those directories
pub record IsWalkedBefore (image : Image) (ckpt : Checkpoint) (walk : Walk) (next : ℕ) : Type 0 where
  pub done : Numbers
  pub to : IsWalkedTo image ckpt done 0 [] 0 walk
  pub are : AreDone walk.rows walk.order.items next done

module _ (image : Image) (ckpt : Checkpoint) where
  -- at the begin none is done
  pub before_none : (walk : Walk) → IsWalkedTo image ckpt set.empty 0 [] 0 walk → IsWalkedBefore image ckpt walk 0
  before_none walk is = record {
    done = set.empty;
    to = is;
    are = record { each = λ ino h. absurd (not_both h (set.contains-empty _ ino)); all = λ k small has. absurd (omega (arith, small)) };
  }

  -- at the end all are
  pub walked_whole : (geom : ImageGeometry) (walk : Walk) (next : ℕ) → IsQueue geom walk.rows walk.order.items → IsWalkedBefore image ckpt walk next → length walk.order.items ≤ next → IsWalked image ckpt walk
  walked_whole geom walk next queue before past = record {
    done = before.done;
    to = before.to;
    all = λ ino row there directory.
        let at = place_of geom walk.rows walk.order.items queue ino row there in
        let small : at.0 < next = (let within = at.1.0 in omega (arith, within, past)) in
        subst (λ n. set.contains before.done n ≡ true) at.1.1 (before.are.all at.0 small (record { row = row; there = ap (map.get walk.rows) at.1.1 ∙ there; is = directory }));
  }

  module _ (geom : ImageGeometry) (old : Walk) (next ino : ℕ) (queue : IsQueue geom old.rows old.order.items) (before : IsWalkedBefore image ckpt old next) (small : next < length old.order.items)
      (at : slice_index_or old.order.items next 0 ≡ ino) where
    -- the next row isn't done
    pub next_fresh : set.contains before.done ino ≡ false
    next_fresh = not_true (set.contains before.done ino) (λ h.
        let was = before.are.each ino h in
        let less = was.1.0 in
        let same : was.0 ≡ next = queue.apart was.0 next (omega (arith, less, small)) small (was.1.1 ∙ sym at) in
        omega (arith, less, same))

    module _ (new : Walk) (longer : IsLonger old new) where
      -- a directory before the place was one
      was_directory : (k : ℕ) → k < length old.order.items → HasDirectory new.rows (slice_index_or new.order.items k 0) → HasDirectory old.rows (slice_index_or old.order.items k 0)
      was_directory k within has =
          let found = queue.there k within in
          let same : found.row ≡ has.row = same_some found.row has.row (sym (longer.rows _ found.row found.there) ∙ ap (map.get new.rows) (sym (longer.order k within)) ∙ has.there) in
          record { row = found.row; there = found.there; is = subst (λ (r : BaseRow). r.file.kind ≡ Directory) (sym same) has.is }

      each_on : (i : ℕ) → set.contains before.done i ≡ true → (k : ℕ) × ((k < next + 1) × (slice_index_or new.order.items k 0 ≡ i))
      each_on i h =
          let was = before.are.each i h in
          let less = was.1.0 in
          (was.0, (omega (arith, less), longer.order was.0 (omega (arith, less, small)) ∙ was.1.1))

      all_before : (k : ℕ) → k < next → HasDirectory new.rows (slice_index_or new.order.items k 0) → set.contains before.done (slice_index_or new.order.items k 0) ≡ true
      all_before k less has =
          let within : k < length old.order.items = omega (arith, less, small) in
          subst (λ n. set.contains before.done n ≡ true) (sym (longer.order k within)) (before.are.all k less (was_directory k within has))

      next_is : slice_index_or new.order.items next 0 ≡ ino
      next_is = longer.order next small ∙ at

      -- the next row is a directory, and was walked
      directory_done : IsWalkedTo image ckpt (set.insert before.done ino) 0 [] 0 new → IsWalkedBefore image ckpt new (next + 1)
      directory_done walked = record {
        done = set.insert before.done ino;
        to = walked;
        are = record { each = λ i h. by_each i (one_of before.done ino i h); all = λ k less has. by_all k less has (cases_eq k next) };
      }
        where
          by_each : (i : ℕ) → (i ≡ ino) ⊎ (set.contains before.done i ≡ true) → (k : ℕ) × ((k < next + 1) × (slice_index_or new.order.items k 0 ≡ i))
          by_each i (inl same) = (next, (omega arith, next_is ∙ sym same))
          by_each i (inr h) = each_on i h

          by_all : (k : ℕ) → k < next + 1 → HasDirectory new.rows (slice_index_or new.order.items k 0) → (k ≡ next) ⊎ (k ≢ next) → set.contains (set.insert before.done ino) (slice_index_or new.order.items k 0) ≡ true
          by_all k less has (inl same) = subst (λ n. set.contains (set.insert before.done ino) n ≡ true) (sym (ap (λ n. slice_index_or new.order.items n 0) same ∙ next_is)) (here before.done ino)
          by_all k less has (inr other) = stays before.done ino _ (all_before k (omega (arith, less, other)) has)

      -- the next row is none
      file_done : (HasDirectory new.rows ino → ⊥) → IsWalkedTo image ckpt before.done 0 [] 0 new → IsWalkedBefore image ckpt new (next + 1)
      file_done none walked = record {
        done = before.done;
        to = walked;
        are = record { each = each_on; all = λ k less has. by_all k less has (cases_eq k next) };
      }
        where
          by_all : (k : ℕ) → k < next + 1 → HasDirectory new.rows (slice_index_or new.order.items k 0) → (k ≡ next) ⊎ (k ≢ next) → set.contains before.done (slice_index_or new.order.items k 0) ≡ true
          by_all k less has (inl same) = absurd (none (subst (HasDirectory new.rows) (ap (λ n. slice_index_or new.order.items n 0) same ∙ next_is) has))
          by_all k less has (inr other) = all_before k (omega (arith, less, other)) has

      -- one row more was walked
      pub before_more : ((done : Numbers) → set.contains done ino ≡ false → IsWalkedTo image ckpt done 0 [] 0 old → HasDirectory old.rows ino → IsWalkedTo image ckpt (set.insert done ino) 0 [] 0 new)
          → ((row : BaseRow) → map.get old.rows ino ≡ Some row → row.file.kind ≢ Directory → new ≡ old) → IsWalkedBefore image ckpt new (next + 1)
      before_more walked file = by_kind found.row.file.kind refl
        where
          found : HasRow old.rows ino (λ row. row.depth ≤ most_depth row.file.kind)
          found = subst (λ n. HasRow old.rows n (λ row. row.depth ≤ most_depth row.file.kind)) at (queue.there next small)

          no_other : Regular ≡ Directory → ⊥
          no_other e = cc

          by_kind : (kind : Kind) → found.row.file.kind ≡ kind → IsWalkedBefore image ckpt new (next + 1)
          by_kind Directory is = directory_done (walked before.done next_fresh before.to (record { row = found.row; there = found.there; is = is }))
          by_kind Regular is =
              let other : found.row.file.kind ≢ Directory = λ e. no_other (sym is ∙ e) in
              let same : new ≡ old = file found.row found.there other in
              file_done
              (λ has. other (ap (λ (r : BaseRow). r.file.kind) (same_some found.row has.row (sym found.there ∙ ap (λ (w : Walk). map.get w.rows ino) (sym same) ∙ has.there)) ∙ has.is))
              (subst (IsWalkedTo image ckpt before.done 0 [] 0) (sym same) before.to)
