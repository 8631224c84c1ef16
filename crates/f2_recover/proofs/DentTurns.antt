-- The dents of a directory are taken one after another.
use Rattle.std.proofs.Common.{◌≡◌, ◌∙◌, ◌++◌, ◌∷◌, ◌+◌, ◌<◌, ℕ, List, [], length, length-append, sym, ap, subst, arith}
use Rattle.std.specs.Prelude.{Some, None, slice_index_or}
use Rattle.std.specs.Ordering.{nat_cmp}
use Rattle.std.specs.Cmp.Lexicographic.{slice_cmp}
use Rattle.std.specs.FinMap as map
use Rattle.std.proofs.Math.Seq.{get_or-append_seam}
use Rattle.std.proofs.lemmas.List.{length_push}
use Rattle.f2_model.specs.declared.rows.Kind.{Kind}
use Rattle.f2_dir.specs.Entries.{Entries}
use Rattle.f2_dentry_block.specs.declared.dents.Dent.{Dent}
use Rattle.f2_image.specs.Images.{Image}
use Rattle.f2_image.specs.Packs.{Checkpoint}
use Rattle.f2_recover.specs.Dents.{no_dent}
use Rattle.f2_recover.specs.Walking.{IsLonger, IsWalkedTo, AreFirstNames}
use Rattle.f2_recover.specs.declared.walk.Walk.{Walk}
use Rattle.f2_recover.proofs.Sets.{Numbers}

-- a walk goes on from itself, and step by step
pub longer_none : (walk : Walk) → IsLonger walk walk
longer_none walk = record { rows = λ ino row there. there; grows = omega arith; order = λ k small. λ i. slice_index_or walk.order.items k 0 }

pub longer_then : (a b c : Walk) → IsLonger a b → IsLonger b c → IsLonger a c
longer_then a b c first second = record {
  rows = λ ino row there. second.rows ino row (first.rows ino row there);
  grows = (let one = first.grows in let two = second.grows in omega (arith, one, two));
  order = λ k small. second.order k (let one = first.grows in omega (arith, small, one)) ∙ first.order k small;
}

-- no name was taken
pub names_none : (dents : List Dent) (names : Entries) → names ≡ map.empty → AreFirstNames dents 0 names
names_none dents names empty = record {
  only = λ name ino kind there. absurd (no (ino, kind) (sym (ap (λ (m : Entries). map.get m name) empty ∙ map.get-empty (slice_cmp nat_cmp) name) ∙ there));
  all = λ k small. absurd (omega (arith, small));
}
  where
    no : (found : ℕ × Kind) → None ≡ Some found → ⊥
    no found e = cc

-- behind those that were taken stands the next
pub next_dent : (front rest : List Dent) (dent : Dent) (dents : List Dent) → front ++ dent ∷ rest ≡ dents → (length front < length dents) × (slice_index_or dents (length front) no_dent ≡ dent)
next_dent front rest dent dents whole = (
  subst (λ (xs : List Dent). length front < length xs) whole (omega (arith, length-append front (dent ∷ rest))),
  ap (λ (xs : List Dent). slice_index_or xs (length front) no_dent) (sym whole) ∙ get_or-append_seam front dent rest no_dent,
)

module _ (image : Image) (ckpt : Checkpoint) (done : Numbers) (directory : ℕ) (places : List (ℕ × ℕ)) (dents : List Dent) (walk : Walk) (names : Entries) where
  -- so many dents were taken
  abbrev pub Took : ℕ → Type 0
  Took count = IsWalkedTo image ckpt done directory places count walk × AreFirstNames dents count names

  pub took_more : (front : List Dent) (dent : Dent) → Took (length front + 1) → Took (length (front ++ dent ∷ []))
  took_more front dent took = subst Took (sym (length_push front dent)) took

  pub took_all : (front : List Dent) → length front ≡ length dents → Took (length front) → Took (length dents)
  took_all front all took = subst Took all took
