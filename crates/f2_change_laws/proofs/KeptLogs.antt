-- What is kept of a log whose positions stay, by what its addresses hold.
use Rattle.std.proofs.Common.{◌≡◌, ◌≢◌, ℕ, ◌<◌, ◌≤◌, IsTrue, List, [], ◌∷◌, ◌++◌, length, take, slice_index_or, Option, Some, refl, sym, ap, ◌∙◌, subst, arith}
use Rattle.std.specs.Prelude.{map as map_list}
use Rattle.std.specs.List.{AllByRecursion, AllZip, Contains}
use Rattle.std.specs.FinMap as map
use Rattle.std.proofs.lemmas.List.{length-map}
use Rattle.f2_format.specs.Geometry.{is_in_node, is_in_data}
use Rattle.f2_format.specs.Footer.{footer_version}
use Rattle.f2_disk.specs.Contents.{Contents}
use Rattle.f2_model.specs.Tree.{Rows}
use Rattle.f2_model.specs.State.{State, Mark}
use Rattle.f2_image.specs.Chains.{Logged, no_block, block_in, marked_places, marked_address}
use Rattle.f2_image.specs.Reached.{AllDiffer}
use Rattle.f2_image_laws.specs.Chained.{Follow, HoldsOrOther, HoldsNone, HoldsAlone}
use Rattle.f2_stored.specs.Layout.{Position, Reference, Layout, chained, log_version}
use Rattle.f2_stored.specs.Bases.{HoldsImage}
use Rattle.f2_stored.specs.Logs.{HoldsAs, IsLogAddress, log_addresses}
use Rattle.f2_stored.specs.Numbers.{IsNumbered, CountsAt}
use Rattle.f2_stored.specs.Marks.{HoldsMark, marks_within}
use Rattle.f2_stored.specs.Stored.{KeepsLog}
use Rattle.f2_change_laws.proofs.Fewer.{Fewer}
use Rattle.f2_change_laws.proofs.Each.{zip_weaker}
use Rattle.f2_change_laws.proofs.KeptMarks.{mark_kept, fitting_kept}

always : {X : Type 0} (xs : List X) → AllByRecursion (λ x. Unit {0}) xs
always [] = tt
always (x ∷ xs) = (tt, always xs)

-- what the addresses of a log hold
pub record HoldsWhere (lists new : Contents) (layout : Layout) (log : List Position) (count : ℕ) : Type 0 where
  pub stands : AllByRecursion (HoldsOrOther new (log_version layout)) (chained layout)
  pub free : layout.next ≢ 0 → HoldsNone new (log_version layout) layout.next
  pub held : AllByRecursion (λ position. HoldsAs new (log_version layout) position.logged position.fate) log
  pub fresh : (at : ℕ) → IsTrue (is_in_node layout.base.ckpt.geom at) → ¬ (Contains (log_addresses layout) at) → HoldsNone new (log_version layout) at
  pub within : count ≤ length layout.log
  pub settled : AllByRecursion (HoldsAlone new (log_version layout)) (take count (chained layout))
  pub pages : (at : ℕ) (owner : ℕ × ℕ) → map.get layout.owners at ≡ Some owner → IsTrue (is_in_data layout.base.ckpt.geom at) → Fewer lists new at

module _ (lists new : Contents) (layout : Layout) (state : State) (keeps : KeepsLog lists layout state)
    (pending : Option Reference) (log : List Position) (settled : ℕ) (tree : Option Rows) (acknowledged : ℕ)
    (same : map_list (λ position. position.logged) log ≡ chained layout) where
  abbrev after : Layout
  after = record layout { pending = pending; log = log; settled = settled }

  numbered : (one : Logged) → IsNumbered layout one → IsNumbered after one
  numbered one is = record { nid = is.nid; least = is.least; most = is.most; inode = is.inode; shape = is.shape }

  as_long : length log ≡ length layout.log
  as_long = sym (length-map log (λ position. position.logged)) ∙ ap length same ∙ length-map layout.log (λ position. position.logged)

  pub log_kept : HoldsImage new layout.base state.base [] → HoldsWhere lists new layout log settled → state.acknowledged ≤ acknowledged → acknowledged ≤ marks_within layout settled
      → KeepsLog new (record layout { pending = pending; log = log; settled = settled }) (record state { pending = tree; acknowledged = acknowledged })
  log_kept base where_held more most = record {
    base = base;
    no_log = keeps.no_log;
    log = record {
      linked = record {
        follow = subst (λ (c : List Logged). Follow layout.base.ckpt.head.log_start c layout.next) (sym same) keeps.log.linked.follow;
        held = subst (AllByRecursion (HoldsOrOther new (log_version layout))) (sym same) where_held.stands;
        free = where_held.free;
      };
      own = subst (AllByRecursion (λ (one : Logged). footer_version one.block ≡ log_version layout)) (sym same) keeps.log.own;
      held = where_held.held;
      fresh = λ at inside no_position. where_held.fresh at inside (λ found. no_position (subst (λ (c : List Logged). Contains (map_list (λ one. one.at) c) at) (sym same) found));
      within = let few = where_held.within in omega (arith, few, as_long);
      settled = subst (λ (c : List Logged). AllByRecursion (HoldsAlone new (log_version layout)) (take settled c)) (sym same) where_held.settled;
      addresses = subst (λ (c : List Logged). AllByRecursion (IsLogAddress layout) (map_list (λ one. one.at) c)) (sym same) keeps.log.addresses;
      differ = subst (λ (c : List Logged). AllDiffer (map_list (λ one. one.at) c ++ layout.next ∷ [])) (sym same) keeps.log.differ;
      next = keeps.log.next;
      short = let few = keeps.log.short in omega (arith, few, as_long);
    };
    nids = record {
      base = keeps.nids.base;
      log = subst (λ (c : List Logged). (place : ℕ) → place < length c → CountsAt c place → IsNumbered after (slice_index_or c place no_block)) (sym same)
          (λ place small counts. numbered (slice_index_or (chained layout) place no_block) (keeps.nids.log place small counts));
      differ = keeps.nids.differ;
    };
    owners = record { base = keeps.owners.base; few = keeps.owners.few };
    marks = subst (λ (c : List Logged). AllZip (HoldsMark new after state.base) (marked_places c) state.marks) (sym same)
        (zip_weaker (λ place. Unit {0}) (HoldsMark lists layout state.base) (HoldsMark new after state.base) one_mark (marked_places (chained layout)) state.marks (always (marked_places (chained layout))) keeps.marks);
    acknowledged = subst (λ (c : List Logged). acknowledged ≤ length (marked_places (take settled c))) (sym same) most;
    fitting = fitting_kept _ state tree acknowledged more keeps.fitting;
  }
    where
      one_mark : (place : ℕ) (mark : Mark) → Unit {0} → HoldsMark lists layout state.base place mark → HoldsMark new after state.base place mark
      one_mark place mark known = mark_kept lists new layout after state.base place mark refl (ap (λ c. block_in c place) same) (λ page. ap (λ c. marked_address layout.base.image layout.base.ckpt c place page) same) (λ at owner is. is) where_held.pages
