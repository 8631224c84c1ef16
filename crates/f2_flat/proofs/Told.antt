-- The refusal of a zone that is too small, and what a tree takes by its counts.
use Rattle.std.proofs.Common.{◌≡◌, ℕ, ◌+◌, ◌/◌, ◌<◌, ◌≤◌, Bool, true, false, Some, None, refl, sym, ap, ◌∙◌, subst, arith}
use Rattle.std.specs.Prelude.{nat_lt, Result, Ok, Err, IfErr}
use Rattle.std.specs.Result.{IsErrAnd}
use Rattle.std.specs.Bool.{then_some}
use Rattle.std.specs.FinMap as map
use Rattle.f2_model.specs.Tree.{Rows, ROOT}
use Rattle.f2_model.specs.Count.{dentry_blocks, data_of_tree}
use Rattle.f2_model.specs.declared.replies.Reply.{Reply}
use Rattle.f2_model.specs.declared.replies.Reply.TheVariants.{NoSpace}
use Rattle.f2_model.specs.declared.replies.Space.{Space}
use Rattle.f2_model.specs.declared.replies.Space.TheVariants.{Data}
use Rattle.f2_flat.specs.Kept.{HasRootFiles, AreCounts, slots_of_tree, pages_of_tree}
use Rattle.f2_flat.specs.Steps.{told_beyond}
use Rattle.f2_flat.specs.declared.counts.Counts.{Counts}
use Rattle.f2_flat.proofs.Trees.{blocks_filled, data_of}

pub not_lt : (m n : ℕ) → n ≤ m → nat_lt m n ≡ false
not_lt m n le = grind (arith, le)

pub is_lt : (m n : ℕ) → m < n → nat_lt m n ≡ true
is_lt m n less = grind (arith, less)

pub told_none : (space : Space) (need limit : ℕ) → need ≤ limit → told_beyond space need limit ≡ None
told_none space need limit fits = ap (λ b. then_some b (NoSpace space need limit)) (not_lt limit need fits)

pub told_some : (space : Space) (need limit : ℕ) → limit < need → told_beyond space need limit ≡ Some (NoSpace space need limit)
told_some space need limit past = ap (λ b. then_some b (NoSpace space need limit)) (is_lt limit need past)

-- where nothing is refused there is room
pub none_within : (space : Space) (need limit : ℕ) → told_beyond space need limit ≡ None → need ≤ limit
none_within space need limit none = by_test (nat_lt limit need) refl none
  where
    by_test : (b : Bool) → nat_lt limit need ≡ b → then_some b (NoSpace space need limit) ≡ None → need ≤ limit
    by_test true is none = absurd (cc)
    by_test false is none = grind (arith, is)

-- a tree takes no more than its counts tell
pub data_within : (tree : Rows) (counts : Counts) → HasRootFiles tree → AreCounts tree counts → data_of_tree tree ≤ (counts.slots + 182) / 183 + counts.pages
data_within tree counts files are = within (dentry_blocks (map.values tree) ROOT) (slots_of_tree tree) (pages_of_tree tree) counts.slots (data_of_tree tree) (blocks_filled tree files ROOT) are.slots are.pages (data_of tree files)
  where
    within : (blocks slots pages counted data_blocks : ℕ) → blocks ≤ (slots + 182) / 183 → counted ≡ slots → counts.pages ≡ pages → data_blocks ≡ blocks + pages → data_blocks ≤ (counted + 182) / 183 + counts.pages
    within blocks slots pages counted data_blocks few same_slots same_pages sum = omega (arith, few, same_slots, same_pages, sum)

-- no page more
pub told_more : (tree other : Rows) (limit : ℕ) → other ≡ tree → told_beyond Data (data_of_tree other + 0) limit ≡ told_beyond Data (data_of_tree tree) limit
told_more tree other limit same =
    let none : data_of_tree other + 0 ≡ data_of_tree other = omega arith in
    ap (λ need. told_beyond Data need limit) (none ∙ ap data_of_tree same)

-- what is refused is past the limit
pub some_past : (space : Space) (need limit : ℕ) (refused : Reply) → Some refused ≡ told_beyond space need limit → limit < need
some_past space need limit refused told = by_test (nat_lt limit need) refl told
  where
    by_test : (b : Bool) → nat_lt limit need ≡ b → Some refused ≡ then_some b (NoSpace space need limit) → limit < need
    by_test true is told = grind (arith, is)
    by_test false is told = absurd (cc)

-- what holds of a refusal holds where it is passed on
pub passed_on : {X : Type 0} (result : Result X Reply) (came : Reply) (P : Reply → Type 0) → IsErrAnd result (λ e. e ≡ came) → P came → IfErr result P
passed_on (Ok x) came P is holds = tt
passed_on (Err refused) came P is holds = subst P (sym is) holds
