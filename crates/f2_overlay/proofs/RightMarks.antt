-- The marks of a node log, place by place.
use Rattle.std.proofs.Common.{◌≡◌, ◌⊎◌, inl, inr, ℕ, ◌+◌, ◌<◌, Bool, true, false, List, length, get_or, sym, ap, ◌∙◌, subst, arith}
use Rattle.std.specs.Prelude.{Some, None, IsTrue, take}
use Rattle.std.specs.FinMap as map
use Rattle.std.proofs.lemmas.List.{get_or_read}
use native.Mathlib.Decide.{dec_lt}
use Rattle.f2_format.specs.Footer.{footer_ino}
use Rattle.f2_format.specs.Inode.{inode_of}
use Rattle.f2_image.specs.Images.{Image}
use Rattle.f2_image.specs.Packs.{Checkpoint}
use Rattle.f2_image.specs.Bases.{IsReached}
use Rattle.f2_image.specs.Chains.{Logged, chain, block_in, no_block, is_marked}
use Rattle.f2_image.specs.Reached.{IsMarkedAt}
use Rattle.f2_image.specs.Faults.{BringsName}
use Rattle.f2_overlay.specs.Brought.{BroughtNames, bringer, IsBrought, IsFitName, IsLoggedAt, IsBroughtBefore, AreRightTo}
use Rattle.f2_overlay.specs.Names.{IsRightMark, HasRightMarks}
use Rattle.f2_overlay.proofs.Bringing.{nobody, still_brought, brought_by}

-- a place before the next one is before this one, or is it
by_place : {P : Type 0} (earlier place : ℕ) → earlier < place + 1 → (earlier < place → P) → (earlier ≡ place → P) → P
by_place {P} earlier place below before here = by_order (dec_lt earlier place)
  where
    by_order : Dec (earlier < place) → P
    by_order (yes less) = before less
    by_order (no more) = here (omega (arith, more, below))

same_value : {X : Type 0} (x y : X) → Some x ≡ Some y → x ≡ y
same_value x y e = cc

module _ (image : Image) (ckpt : Checkpoint) where
  -- no marks are right
  pub right_none : AreRightTo image ckpt 0 map.empty
  right_none = record {
    marks = λ earlier block marked below. absurd (omega (arith, below));
    fit = λ earlier ino parent name brings below. absurd (omega (arith, below));
    all = λ earlier ino parent name brings below. absurd (omega (arith, below));
    only = λ parent name ino there. absurd (no ino (sym (nobody parent name) ∙ there));
  }
    where
      no : (ino : ℕ) → None ≡ Some ino → ⊥
      no ino e = cc

  -- a block of the list that the node log is
  pub same_block : (log : List Logged) (place : ℕ) (logged : Logged) → log ≡ chain image ckpt → place < length log → logged ≡ get_or log place logged → logged.block ≡ block_in (chain image ckpt) place
  same_block log place logged same within is = ap (λ (l : Logged). l.block) (get_or_read log place logged within is no_block ∙ ap (λ (l : List Logged). get_or l place no_block) same)

  -- a marked one
  pub logged_at : (log : List Logged) (place : ℕ) (logged : Logged) → log ≡ chain image ckpt → place < length log → logged ≡ get_or log place logged → IsTrue (is_marked logged.block) → IsLoggedAt image ckpt place logged
  logged_at log place logged same within is marked =
      let here : logged ≡ get_or (chain image ckpt) place no_block = get_or_read log place logged within is no_block ∙ ap (λ (l : List Logged). get_or l place no_block) same in
      record {
        marked = record {
          within = subst (λ (l : List Logged). place < length l) same within;
          stands = same_block log place logged same within is;
          marked = marked;
        };
        at_is = ap (λ (l : Logged). l.at) (sym here);
      }

  -- what the block at a place brings
  brings_one : (place ino own parent under : ℕ) (name more : List ℕ) → BringsName image ckpt place ino parent name → BringsName image ckpt place own under more → (own ≡ ino) × (under ≡ parent) × (more ≡ name)
  brings_one place ino own parent under name more a b =
      let same : b.block ≡ a.block = b.marked.stands ∙ sym a.marked.stands in (
        sym b.own ∙ ap footer_ino same ∙ a.own,
        sym b.under ∙ ap (λ block. (inode_of block).parent) same ∙ a.under,
        sym b.named ∙ ap (λ block. take (inode_of block).name_length (inode_of block).name) same ∙ a.named,
      )

  module _ (place : ℕ) (old : BroughtNames) (right : AreRightTo image ckpt place old) where
    before : (ino parent : ℕ) (name : List ℕ) → bringer old parent name ≡ Some ino → IsBroughtBefore image ckpt (place + 1) ino parent name
    before ino parent name there =
        let found = right.only parent name ino there in
        record { earlier = found.earlier; before = omega (arith, found.before); brings = found.brings }

    -- a place that brings no name
    no_name : ((block : List ℕ) → IsMarkedAt image ckpt place block → IsRightMark image ckpt block) → ((ino parent : ℕ) (name : List ℕ) → ¬ (BringsName image ckpt place ino parent name)) → AreRightTo image ckpt (place + 1) old
    no_name mark none = record {
      marks = λ earlier block marked below. by_place earlier place below (right.marks earlier block marked) (λ here. mark block (subst (λ p. IsMarkedAt image ckpt p block) here marked));
      fit = λ earlier ino parent name brings below. by_place earlier place below (right.fit earlier ino parent name brings) (λ here. absurd (none ino parent name (subst (λ p. BringsName image ckpt p ino parent name) here brings)));
      all = λ earlier ino parent name brings below. by_place earlier place below (right.all earlier ino parent name brings) (λ here. absurd (none ino parent name (subst (λ p. BringsName image ckpt p ino parent name) here brings)));
      only = λ parent name ino there. before ino parent name there;
    }

    -- a place without a mark
    pub right_passed : is_marked (block_in (chain image ckpt) place) ≡ false → AreRightTo image ckpt (place + 1) old
    right_passed unmarked = no_name (λ block marked. absurd (no block marked)) (λ ino parent name brings. no brings.block brings.marked)
      where
        not_true : (b : Bool) → b ≡ false → IsTrue b → ⊥
        not_true b e t = different (sym e ∙ t)
          where
            different : false ≡ true → ⊥
            different e = cc

        no : (block : List ℕ) → IsMarkedAt image ckpt place block → ⊥
        no block marked = not_true (is_marked block) (ap is_marked marked.stands ∙ unmarked) marked.marked

    module _ (block : List ℕ) (marked : IsMarkedAt image ckpt place block) (mark : IsRightMark image ckpt block) where
      right_mark : (other : List ℕ) → IsMarkedAt image ckpt place other → IsRightMark image ckpt other
      right_mark other at = subst (IsRightMark image ckpt) (marked.stands ∙ sym at.stands) mark

      -- a mark of a file of the base
      pub right_known : IsReached image ckpt (footer_ino block) → AreRightTo image ckpt (place + 1) old
      right_known up = no_name right_mark (λ ino parent name brings. brings.fresh (subst (IsReached image ckpt) (ap footer_ino (marked.stands ∙ sym brings.marked.stands) ∙ brings.own) up))

      -- a mark that brings a name
      pub right_brought : (new : BroughtNames) (ino parent : ℕ) (name : List ℕ) → BringsName image ckpt place ino parent name → IsFitName image ckpt parent name → IsBrought old new parent name ino → AreRightTo image ckpt (place + 1) new
      right_brought new ino parent name brings fit brought = record {
        marks = λ earlier other at below. by_place earlier place below (right.marks earlier other at) (λ here. right_mark other (subst (λ p. IsMarkedAt image ckpt p other) here at));
        fit = λ earlier own under more also below. by_place earlier place below (right.fit earlier own under more also) (λ here.
            let one = brings_one place ino own parent under name more brings (subst (λ p. BringsName image ckpt p own under more) here also) in
            subst (λ d. IsFitName image ckpt d more) (sym one.1) (subst (IsFitName image ckpt parent) (sym one.2) fit));
        all = λ earlier own under more also below. by_place earlier place below (λ less. still_brought old new parent name ino brought under more own (right.all earlier own under more also less)) (λ here.
            let one = brings_one place ino own parent under name more brings (subst (λ p. BringsName image ckpt p own under more) here also) in
            ap (λ d. bringer new d more) one.1 ∙ ap (bringer new parent) one.2 ∙ brought.there ∙ ap Some (sym one.0));
        only = λ under more own there. only_of under more own (brought_by old new parent name ino brought under more own there);
      }
        where
          only_of : (under : ℕ) (more : List ℕ) (own : ℕ) → (bringer old under more ≡ Some own) ⊎ ((under ≡ parent) × (more ≡ name) × (own ≡ ino)) → IsBroughtBefore image ckpt (place + 1) own under more
          only_of under more own (inl there) = before own under more there
          only_of under more own (inr same) = record {
            earlier = place;
            before = omega arith;
            brings = subst (λ i. BringsName image ckpt place i under more) (sym same.2) (subst (λ d. BringsName image ckpt place ino d more) (sym same.0) (subst (BringsName image ckpt place ino parent) (sym same.1) brings));
          }

  -- all marks
  pub right_all : (brought : BroughtNames) → AreRightTo image ckpt (length (chain image ckpt)) brought → HasRightMarks image ckpt
  right_all brought right = record {
    marks = λ place block marked. right.marks place block marked marked.within;
    names = λ place ino parent name brings.
        let fit = right.fit place ino parent name brings brings.marked.within in
        let there = right.all place ino parent name brings brings.marked.within in
        record {
          good = fit.good;
          under = fit.under;
          free = fit.free;
          alone = λ other own also. same_value own ino (sym (right.all other own parent name also also.marked.within) ∙ there);
        };
  }
