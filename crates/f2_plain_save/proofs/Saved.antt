-- A checkpoint that is written after another.
use Rattle.std.proofs.Common.{◌≡◌, inl, inr, ℕ, ◌<◌, ◌≤◌, List, set, IsTrue, sym, ap, ◌∙◌, subst, arith}
use Rattle.f2_format.specs.Geometry.{ImageGeometry, is_in_node}
use Rattle.f2_format.specs.Pack.{HeadFields, head_of}
use Rattle.f2_disk.specs.Contents.{Contents, IsImage}
use Rattle.f2_model.specs.Tree.{Rows}
use Rattle.f2_image.specs.Images.{Image, block_at, IsSized}
use Rattle.f2_image.specs.Packs.{Side, other_side, tail_address, version_of}
use Rattle.f2_laid.specs.Laid.{side_of, IsStorable, IsLaid}
use Rattle.f2_laid.specs.Planned.{IsPlanOf, put_all}
use Rattle.f2_laid.specs.Laws.{IsReadyFor, IsNext}
use Rattle.f2_laid.specs.declared.planned.Planned.{Planned}
use Rattle.f2_laid.specs.declared.stored.Stored.{Stored}
use Rattle.f2_plain_save.specs.Saves.{IsSaved, IsSafelySaved}
use Rattle.f2_plain_save.specs.Writing.{tail_of, IsPlanWritten, IsPlanLeft}
use Rattle.f2_plain_save.proofs.Addresses.{other_twice}
use Rattle.f2_plain_save.proofs.Laid.{sized_blocks}
use Rattle.f2_plain_save.proofs.Left.{left}
use Rattle.f2_plain_save.proofs.Made.{made}
use Rattle.f2_plain_save.proofs.Writes.{alone_left}

-- a checkpoint may be written to an image on which the last one is laid out
pub ready : (image : Image) (tree : Rows) (old next : Stored) → IsLaid image tree old → IsNext old next → IsReadyFor image next
ready image tree old next laid after =
    record {
      sized = sized;
      blocks = sized_blocks image next.geometry sized;
      other = λ _. subst (λ (s : Side). version_of image s < next.version) (sym side) before;
      tail = subst (λ (s : Side). (head_of (block_at image (tail_address s))).version ≤ next.version) (sym side) tail;
      unlogged = λ at zone. laid.1.unlogged at (subst (λ (e : ImageGeometry). IsTrue (is_in_node e at)) geom zone);
      first = omega (arith, after.version);
    }
  where
    geom : next.geometry ≡ laid.0.geom
    geom = after.geometry ∙ sym laid.1.geom

    sized : IsSized image next.geometry
    sized = subst (IsSized image) (sym geom) laid.1.checkpoint.sized

    side : other_side (side_of next.side) ≡ laid.0.side
    side = ap other_side after.side ∙ (other_twice (side_of old.side) ∙ sym laid.1.side)

    before : version_of image laid.0.side < next.version
    before = subst (λ (h : HeadFields). h.version < next.version) laid.1.checkpoint.head (omega (arith, laid.1.version, after.version))

    tail : (head_of (block_at image (tail_address laid.0.side))).version ≤ next.version
    tail = omega (arith, laid.1.tails laid.0.side, laid.1.version, after.version)

module _ (old next : Stored) (tree : Rows) (plan : List Planned) (tail : List ℕ)
    (old_storable : IsStorable old.geometry tree) (after : IsNext old next) (is : IsPlanOf tree old.places next plan tail) where
  storable : IsStorable next.geometry tree
  storable = subst (λ (e : ImageGeometry). IsStorable e tree) (sym after.geometry) old_storable

  whole : (image : Image) (base : Rows) → IsLaid image base old → IsLaid (set (put_all image plan) (tail_of next) tail) tree next
  whole image base laid = made image tree next old.places plan tail storable (ready image base old next laid after) is

  pub saved : (a b : Contents) → IsPlanWritten plan (tail_of next) tail a b → IsSaved old tree next a b
  saved a b written image base held = (set (put_all image plan) (tail_of next) tail, written image held.one, whole image base held.laid)

  pub saved_safely : (a b : Contents) → IsPlanLeft plan (tail_of next) tail a b → IsSafelySaved old tree a b
  saved_safely a b leaves image base held other is_left =
      elim (leaves image held.one other is_left) [
        | inl partly ↦ inl (held.laid.0, left image other base tree old next plan tail held.laid.0 storable held.laid.1 after is partly)
        | inr e ↦ inr (next, subst (λ (i : Image). IsLaid i tree next) (sym e) (whole image base held.laid))
      ]

-- where nothing was written, the last checkpoint is there
pub kept_safely : (old : Stored) (tree : Rows) (a : Contents) → IsSafelySaved old tree a a
kept_safely old tree a image base held other is_left =
    inl (subst (λ (i : Image). IsLaid i base old) (sym (alone_left image other (subst (λ (c : Contents). IsImage c other) held.one is_left))) held.laid)
