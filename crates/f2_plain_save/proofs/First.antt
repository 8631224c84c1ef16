-- The first checkpoint of an image.
use Rattle.std.proofs.Common.{◌≡◌, ℕ, zero, suc, ◌+◌, ◌<◌, ◌≤◌, List, [], length, set, get_or, replicate, refl, sym, ap, ◌∙◌, subst, arith}
use Rattle.std.specs.Prelude.{map as map_list}
use Rattle.std.specs.List.{sum_by}
use Rattle.std.specs.Ordering.{nat_cmp}
use Rattle.std.specs.FinMap as map
use Rattle.std.specs.FinMap.{len-empty}
use Rattle.std.proofs.lemmas.List.{length-set}
use Rattle.f2_format.specs.Bytes.{number_at}
use Rattle.f2_format.specs.Geometry.{ImageGeometry, IsGeometry, data_start, data_third}
use Rattle.f2_format.specs.Footer.{footer_version}
use Rattle.f2_format.specs.Pack.{head_of}
use Rattle.f2_format.specs.Superblock.{IsSuper, super_block, super_geom}
use Rattle.f2_format.proofs.BytesLemmas.{number_at-same}
use Rattle.f2_layout.proofs.SuperLemmas.{IsSuper-super_block, super_geom-super_block}
use Rattle.f2_disk.specs.Contents.{Contents, zeros}
use Rattle.f2_image.specs.Images.{Image, block_at, by_first}
use Rattle.f2_image.specs.Packs.{other_side, head_address, tail_address, IsValid}
use Rattle.f2_pack.specs.declared.packs.Side.TheVariants as pack
use Rattle.f2_laid.specs.Laid.{side_of, pages_of_place, IsStorable, IsKept, root_alone}
use Rattle.f2_laid.specs.Planned.{IsPlanOf, put_all}
use Rattle.f2_laid.specs.Laws.{IsReadyFor}
use Rattle.f2_laid.specs.declared.places.Place.{Place}
use Rattle.f2_laid.specs.declared.planned.Planned.{Planned}
use Rattle.f2_laid.specs.declared.stored.Stored.{Stored}
use Rattle.f2_plain_save.specs.Blanks.{IsBlank, HasBlank}
use Rattle.f2_plain_save.specs.Saves.{HasBothSupers, IsMade}
use Rattle.f2_plain_save.specs.Writing.{tail_of, IsPlanWritten}
use Rattle.f2_plain_save.proofs.Addresses.{node_range}
use Rattle.f2_plain_save.proofs.Made.{made, supers_kept}
use Rattle.f2_plain_save.proofs.Root.{empty_has, none_before, root_storable}
use Rattle.f2_plain_save.proofs.Written.{length-put_all}

-- numbers among zeros are 0
zero_list : ℕ → List ℕ
zero_list m = replicate m 0

zero_byte : (m k : ℕ) → get_or (zero_list m) k 0 ≡ 0
unfolding zero_list
zero_byte zero k = refl
zero_byte (suc m) zero = refl
zero_byte (suc m) (suc k) = zero_byte m k

no_bytes : number_at 8 [] 0 ≡ 0
unfolding number_at
no_bytes = refl

zero_number : (m at : ℕ) → number_at 8 (zero_list m) at ≡ 0
zero_number m at = number_at-same 8 (zero_list m) [] at 0 (λ k less. zero_byte m (at + k)) ∙ no_bytes

zeros_number : (at : ℕ) → number_at 8 zeros at ≡ 0
unfolding zeros zero_list
zeros_number at = zero_number 4096 at

-- a superblock tells its sizes
super_is : (geom : ImageGeometry) → IsGeometry geom → super_geom (super_block geom) ≡ geom
super_is geom geometry = super_geom-super_block geom (omega (arith, geometry.most_blocks)) (omega (arith, geometry.most_nat))

-- a checkpoint may be written to a blank image
blank_ready : (image : Image) (next : Stored) → IsGeometry next.geometry → IsBlank next.geometry image → next.side ≡ pack.A → next.version ≡ 1 → IsReadyFor image next
blank_ready image next geometry blank side version =
    record {
      sized = by_first (subst (λ (b : List ℕ). IsSuper b (length image)) (sym blank.first) (IsSuper-super_block next.geometry (length image) geometry blank.size))
          (sym (super_is next.geometry geometry) ∙ ap super_geom (sym blank.first));
      blocks = blank.size;
      other = λ valid. absurd (counts_not valid);
      tail = omega (arith, ap (λ s. (head_of (block_at image (tail_address (other_side (side_of s))))).version) side, zero_version 7 (omega arith) (omega arith));
      unlogged = λ at zone. ap footer_version (clear at (omega (arith, (node_range next.geometry at zone).0)) (node_range next.geometry at zone).1) ∙ zeros_number 4084;
      first = omega (arith, version);
    }
  where
    clear : (at : ℕ) → 2 ≤ at → at < data_start next.geometry → block_at image at ≡ zeros
    clear = blank.clear

    zero_version : (at : ℕ) → 2 ≤ at → at < 8 → (head_of (block_at image at)).version ≡ 0
    zero_version at above below = ap (λ (b : List ℕ). (head_of b).version) (clear at above (omega (arith, below))) ∙ zeros_number 0

    counts_not : IsValid next.geometry image (other_side (side_of next.side)) → ⊥
    counts_not valid =
        omega (arith, valid.version, ap (λ s. (head_of (block_at image (head_address (other_side (side_of s))))).version) side, zero_version 5 (omega arith) (omega arith))

-- no file has no places
pub none_kept : (geom : ImageGeometry) → IsKept geom map.empty
none_kept geom =
    record {
      placed = record {
        whole = λ ino place held. absurd (empty_has ino place held);
        nodes = λ ino place held. absurd (empty_has ino place held);
        nodes_apart = λ ino other a b held _ _. absurd (empty_has ino a held);
        pages = λ ino page place held _. absurd (empty_has ino place held);
        pages_apart = λ ino page other more a b held _ _ _. absurd (empty_has ino a held);
      };
      files = omega (arith, len-empty nat_cmp Place);
      pages = subst (λ (places : List Place). sum_by pages_of_place places ≤ data_third geom) (sym no_values) (omega arith);
    }
  where
    no_values : map.values (map.empty {X = Place} {R = nat_cmp}) ≡ []
    no_values = ap (map_list (λ e. e.1)) none_before

-- a blank image, with the first checkpoint, is made
pub first_made : (next : Stored) (geom : ImageGeometry) (plan : List Planned) (tail : List ℕ) → next.geometry ≡ geom → IsGeometry geom → next.side ≡ pack.A → next.version ≡ 1
    → IsPlanOf root_alone map.empty next plan tail → (a b c : Contents) → HasBlank geom a b → IsPlanWritten plan (tail_of next) tail b c → IsMade next a c
first_made next geom plan tail same sound side version is a b c has written = (now, written image has.1, supers, made image root_alone next map.empty plan tail storable ready is)
  where
    image : Image
    image = has.0

    now : Image
    now = set (put_all image plan) (tail_of next) tail

    geometry : IsGeometry next.geometry
    geometry = subst IsGeometry (sym same) sound

    blank : IsBlank next.geometry image
    blank = subst (λ (e : ImageGeometry). IsBlank e image) (sym same) has.2

    storable : IsStorable next.geometry root_alone
    storable = root_storable next.geometry geometry

    ready : IsReadyFor image next
    ready = blank_ready image next geometry blank side version

    size : length now ≡ length image
    size = length-set (put_all image plan) (tail_of next) tail ∙ length-put_all plan image

    super_there : (at : ℕ) → at < 2 → block_at now at ≡ super_block next.geometry
    super_there at less = supers_kept image root_alone next map.empty plan tail storable ready is at less ∙ of_blank at less
      where
        of_blank : (at : ℕ) → at < 2 → block_at image at ≡ super_block next.geometry
        of_blank zero less = blank.first
        of_blank (suc zero) less = blank.second
        of_blank (suc (suc at)) less = absurd (omega arith)

    supers : HasBothSupers next.geometry now
    supers at less = (
      subst (λ (b : List ℕ). IsSuper b (length now)) (sym (super_there at less)) (IsSuper-super_block next.geometry (length now) geometry (omega (arith, size, blank.size))),
      ap super_geom (super_there at less) ∙ super_is next.geometry geometry,
    )
