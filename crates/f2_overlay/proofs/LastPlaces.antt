-- The last place before another one at which a file is marked, and which blocks recovery takes by it.
use Rattle.std.proofs.Common.{◌≡◌, ◌≢◌, ℕ, zero, suc, ◌+◌, ◌*◌, ◌<◌, ◌≤◌, ◌==◌, ◌&&◌, Bool, true, false, cond, List, length, get_or, refl, sym, ap, subst, ◌∙◌, arith, eq-eqb}
use Rattle.std.specs.Prelude.{Option, Some, None}
use Rattle.std.specs.Ordering.{nat_cmp, eq_by_cmp}
use Rattle.std.specs.Cmp.{nat_cmp_total, unsigned_tied}
use Rattle.std.specs.FinMap as map
use Rattle.std.proofs.lemmas.Bool.{and_parts, and_from, and_left, and_right, both_ways, eqb-true, ne_eqb}
use Rattle.std.proofs.lemmas.Option.{same_Some}
use Rattle.std.proofs.lemmas.Bool.Decides.{nat_tests}
use Rattle.std.proofs.lemmas.List.{get_or_read}
use Rattle.f2_footer.specs.Footer.{footer_of}
use Rattle.f2_footer.specs.declared.Footer.{Footer}
use Rattle.f2_format.specs.Footer.{footer_ino, footer_offset}
use Rattle.f2_format.specs.Offsets.{direct_of, direct_number, nth_direct}
use Rattle.f2_shape.proofs.Parts.{direct_of-number, number_of-direct}
use Rattle.f2_image.specs.Images.{Image}
use Rattle.f2_image.specs.Packs.{Checkpoint}
use Rattle.f2_image.specs.Chains.{Logged, chain, block_in, is_marked, no_block}
use Rattle.f2_image.specs.Reached.{IsDirect, IsMarkedAt, IsCounted, IsTaken, marked, direct}
use Rattle.f2_overlay.specs.Lasts.{last_mark_before, AreLastMarks}

-- an offset of which a page has its direct node is that of a direct node, and no other is
pub direct_from_page : (page offset : ℕ) → direct_of page ≡ Some offset → IsDirect offset
direct_from_page page offset has =
    let parts = number_of-direct page offset has in
    record { number = direct_number page; within = omega (arith, parts.1, parts.0); is = parts.2 }

pub page_from_direct : (offset : ℕ) → IsDirect offset → (page : ℕ) × (direct_of page ≡ Some offset)
page_from_direct offset is =
    let page : ℕ = 923 + is.number * 1018 in
    let number : direct_number (923 + is.number * 1018) ≡ is.number = omega arith in
    (page, direct_of-number (923 + is.number * 1018) (omega arith) (omega (arith, is.within)) ∙ ap (λ n. Some (nth_direct n)) number ∙ ap Some is.is)

positive : (k : ℕ) → 0 < nth_direct k
positive k = grind (arith, nat_tests)

none_some : {A : Type 0} (x : A) → None ≡ Some x → ⊥
none_some x e = cc

module _ (log : List Logged) (ino : ℕ) where
  -- a file is marked at a place
  pub record IsMark (place : ℕ) : Type 0 where
    pub marked : is_marked (block_in log place) ≡ true
    pub own : footer_ino (block_in log place) ≡ ino

  abbrev marks : ℕ → Bool
  marks place = is_marked (block_in log place) && (footer_ino (block_in log place) == ino)

  is_mark : (place : ℕ) → marks place ≡ true → IsMark place
  is_mark place e = let parts = and_parts (is_marked (block_in log place)) _ e in record { marked = parts.0; own = eqb-true _ _ parts.1 }

  mark_is : (place : ℕ) → IsMark place → marks place ≡ true
  mark_is place is = and_from (is_marked (block_in log place)) _ is.marked (eq-eqb _ _ is.own)

  step : (n : ℕ) (b : Bool) → marks n ≡ b → last_mark_before log (suc n) ino ≡ cond b (Some n) (last_mark_before log n ino)
  step n b e = ap (λ (t : Bool). cond t (Some n) (last_mark_before log n ino)) e

  -- the last place is one, and no later place before the limit is
  pub last_is : (n place : ℕ) → last_mark_before log n ino ≡ Some place → (place < n) × IsMark place
  last_is zero place e = absurd (none_some place e)
  last_is (suc n) place e = by (marks n) refl (last_is n place)
    where
      by : (b : Bool) → marks n ≡ b → (last_mark_before log n ino ≡ Some place → (place < n) × IsMark place) → (place < suc n) × IsMark place
      by true t earlier =
          let same : n ≡ place = same_Some n place (sym (step n true t) ∙ e) in
          (omega (arith, same), subst IsMark same (is_mark n t))
      by false t earlier = let before = earlier (sym (step n false t) ∙ e) in (omega (arith, before.0), before.1)

  pub last_from : (n k : ℕ) → k < n → IsMark k → (place : ℕ) × ((last_mark_before log n ino ≡ Some place) × (k ≤ place))
  last_from zero k low is = absurd (omega (arith, low))
  last_from (suc n) k low is = by (marks n) refl (λ less. last_from n k less is)
    where
      by : (b : Bool) → marks n ≡ b → (k < n → (place : ℕ) × ((last_mark_before log n ino ≡ Some place) × (k ≤ place))) → (place : ℕ) × ((last_mark_before log (suc n) ino ≡ Some place) × (k ≤ place))
      by true t earlier = (n, (step n true t, omega (arith, low)))
      by false t earlier =
          let other : k ≢ n = λ same. both_ways (marks n) t (subst (λ (p : ℕ). marks p ≡ true) same (mark_is k is)) in
          let before = earlier (omega (arith, low, other)) in
          (before.0, (step n false t ∙ before.1.0, before.1.1))

-- the last marks before a place, and one place more
module _ (log : List Logged) (place : ℕ) (lasts : map.FinMap nat_cmp ℕ) (are : (ino : ℕ) → map.get lasts ino ≡ last_mark_before log place ino) where
  pub one_marked : is_marked (block_in log place) ≡ true → (ino : ℕ) → map.get (map.insert lasts (footer_ino (block_in log place)) place) ino ≡ last_mark_before log (suc place) ino
  one_marked is ino =
      let own : ℕ = footer_ino (block_in log place) in
      map.get-insert nat_cmp_total lasts (footer_ino (block_in log place)) place ino
      ∙ by (is_marked (block_in log place)) is (eq_by_cmp nat_cmp ino (footer_ino (block_in log place))) (footer_ino (block_in log place) == ino) (same ino (footer_ino (block_in log place)))
    where
      same : (a b : ℕ) → eq_by_cmp nat_cmp a b ≡ (b == a)
      same a b = grind (arith, unsigned_tied)

      by : (m : Bool) → m ≡ true → (b t : Bool) → b ≡ t → cond b (Some place) (map.get lasts ino) ≡ cond (m && t) (Some place) (last_mark_before log place ino)
      by m e b t s = ap (λ (x : Bool). cond x (Some place) (map.get lasts ino)) s ∙ ap (cond t (Some place)) (are ino) ∙ sym (ap (λ (x : Bool). cond (x && t) (Some place) (last_mark_before log place ino)) e)

  pub none_marked : is_marked (block_in log place) ≡ false → (ino : ℕ) → map.get lasts ino ≡ last_mark_before log (suc place) ino
  none_marked isnt ino = are ino ∙ sym (ap (λ (x : Bool). cond (x && (footer_ino (block_in log place) == ino)) (Some place) (last_mark_before log place ino)) isnt)

-- what the last marks say of a block
module _ (image : Image) (ckpt : Checkpoint) (log : List Logged) (is : log ≡ chain image ckpt) (place : ℕ) (within : place < length log) where
  abbrev last : Option ℕ
  last = last_mark_before log (length log) (footer_ino (block_in log place))

  mark_at : (p : ℕ) → p < length log → is_marked (block_in log p) ≡ true → IsMarkedAt image ckpt p (block_in log p)
  mark_at p low e = record { within = subst (λ (l : List Logged). p < length l) is low; stands = ap (λ (l : List Logged). block_in l p) is; marked = e }

  -- a marked block is taken, and of an inode no other
  pub marked_taken : is_marked (block_in log place) ≡ true → IsTaken image ckpt place (block_in log place)
  marked_taken e = marked (mark_at place within e)

  no_direct : (offset : ℕ) → offset ≡ 0 → IsDirect offset → ⊥
  no_direct offset none d = omega (arith, positive d.number, d.is, none)

  pub inode_passed : footer_offset (block_in log place) ≡ 0 → is_marked (block_in log place) ≡ false → IsTaken image ckpt place (block_in log place) → ⊥
  inode_passed none isnt (marked m) = both_ways _ isnt m.marked
  inode_passed none isnt (direct counted d) = no_direct _ none d

  -- a direct node is taken up to the last mark of its file
  pub direct_taken : (mark : ℕ) → last ≡ Some mark → place ≤ mark → IsDirect (footer_offset (block_in log place)) → IsTaken image ckpt place (block_in log place)
  direct_taken mark e low d =
      let found = last_is log (footer_ino (block_in log place)) (length log) mark e in
      direct (record {
        stands = ap (λ (l : List Logged). block_in l place) is;
        mark = mark;
        inode = block_in log mark;
        later = low;
        marked = mark_at mark found.0 found.1.marked;
        same = found.1.own;
      }) d

  not_marked : footer_offset (block_in log place) ≢ 0 → is_marked (block_in log place) ≡ true → ⊥
  not_marked some e = some (eqb-true _ _ (and_parts (footer_offset (block_in log place) == 0) _ e).0)

  pub other_passed : footer_offset (block_in log place) ≢ 0 → (IsDirect (footer_offset (block_in log place)) → ⊥) → IsTaken image ckpt place (block_in log place) → ⊥
  other_passed some isnt (marked m) = not_marked some m.marked
  other_passed some isnt (direct counted d) = isnt d

  -- and after it none is
  counted_last : IsCounted image ckpt place (block_in log place) → (mark : ℕ) × ((last ≡ Some mark) × (place ≤ mark))
  counted_last counted =
      let back : counted.inode ≡ block_in log counted.mark = counted.marked.stands ∙ ap (λ (l : List Logged). block_in l counted.mark) (sym is) in
      let low : counted.mark < length log = subst (λ (l : List Logged). counted.mark < length l) (sym is) counted.marked.within in
      let found = last_from log (footer_ino (block_in log place)) (length log) counted.mark low (record {
        marked = ap is_marked (sym back) ∙ counted.marked.marked;
        own = ap footer_ino (sym back) ∙ counted.same;
      }) in
      let later : place ≤ counted.mark = counted.later in
      (found.0, (found.1.0, omega (arith, later, found.1.1)))

  pub late_passed : (mark : ℕ) → footer_offset (block_in log place) ≢ 0 → last ≡ Some mark → mark < place → IsTaken image ckpt place (block_in log place) → ⊥
  late_passed mark some e low (marked m) = not_marked some m.marked
  late_passed mark some e low (direct counted d) =
      let found = counted_last counted in
      let same : found.0 ≡ mark = same_Some _ _ (sym found.1.0 ∙ e) in
      omega (arith, low, same, found.1.1)

  pub unmarked_passed : footer_offset (block_in log place) ≢ 0 → last ≡ None → IsTaken image ckpt place (block_in log place) → ⊥
  unmarked_passed some e (marked m) = not_marked some m.marked
  unmarked_passed some e (direct counted d) = let found = counted_last counted in none_some found.0 (sym e ∙ found.1.0)

-- the footer of the block at a place, as it was read from a slice
module _ (log : List Logged) (place : ℕ) (logged : Logged) (b : List ℕ) (footer : Footer) (within : place < length log) (read : logged ≡ get_or log place logged) (own : b ≡ logged.block) (is : footer ≡ footer_of b) where
  pub footer_read : footer ≡ footer_of (block_in log place)
  footer_read = is ∙ ap footer_of (own ∙ ap (λ (l : Logged). l.block) (get_or_read log place logged within read no_block))

  pub offset_read : footer.offset ≡ footer_offset (block_in log place)
  offset_read = ap (λ (f : Footer). f.offset) footer_read

  -- what the last marks say of its file
  pub last_found : (lasts : map.FinMap nat_cmp ℕ) (found : Option ℕ) → AreLastMarks log lasts → found ≡ map.get lasts footer.ino → last_mark_before log (length log) (footer_ino (block_in log place)) ≡ found
  last_found lasts found are e = sym (e ∙ ap (λ (f : Footer). map.get lasts f.ino) footer_read ∙ are (footer_ino (block_in log place)))

  -- whether it is marked
  pub mark_read : footer.offset ≡ 0 → footer.fsync ≡ true → is_marked (block_in log place) ≡ true
  mark_read none mark = and_from (footer_offset (block_in log place) == 0) _ (eq-eqb _ _ (sym offset_read ∙ none)) (sym (ap (λ (f : Footer). f.fsync) footer_read) ∙ mark)

  pub below_inode : footer.offset ≢ 0 → is_marked (block_in log place) ≡ false
  below_inode some = and_left (footer_offset (block_in log place) == 0) _ (ne_eqb _ _ (λ none. some (offset_read ∙ none)))

  pub no_mark_read : footer.fsync ≡ false → is_marked (block_in log place) ≡ false
  no_mark_read none = and_right (footer_offset (block_in log place) == 0) _ (sym (ap (λ (f : Footer). f.fsync) footer_read) ∙ none)
