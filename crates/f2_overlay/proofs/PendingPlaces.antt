-- The newest blocks of nodes: one more, and those of a file taken out.
use Rattle.std.proofs.Common.{◌≡◌, ℕ, sym, ap, ◌∙◌}
use Rattle.std.specs.Prelude.{Option, Some, None, option_and_then}
use Rattle.std.specs.Ordering.{nat_cmp}
use Rattle.std.specs.FinMap as map
use Rattle.std.specs.FinMap.{get-empty}
use Rattle.f2_overlay.specs.Pending.{Places, AllPlaces, place_of, IsNoted, IsLeft}
use Rattle.f2_overlay.proofs.Maps.{get_put, get_put-other, get_taken, get_taken-other}

abbrev found : ℕ → Option Places → Option ℕ
found offset o = option_and_then (λ (places : Places). map.get places offset) o

-- the places of a file
pub places_of : (all : AllPlaces) (ino : ℕ) (places : Places) → map.get all ino ≡ Some places → (offset : ℕ) → map.get places offset ≡ place_of all ino offset
places_of all ino places there offset = ap (found offset) (sym there)

pub places_none : (all : AllPlaces) (ino : ℕ) (places : Places) → map.get all ino ≡ None → places ≡ map.empty → (offset : ℕ) → map.get places offset ≡ place_of all ino offset
places_none all ino places none empty offset = ap (λ (m : Places). map.get m offset) empty ∙ get-empty nat_cmp offset ∙ ap (found offset) (sym none)

pub left_of : (old new : AllPlaces) (ino : ℕ) → new ≡ map.remove old ino → IsLeft old new ino
left_of old new ino left = record {
  none = λ offset. ap (λ (m : AllPlaces). found offset (map.get m ino)) left ∙ ap (found offset) (get_taken old ino);
  files = λ other offset different. ap (λ (m : AllPlaces). found offset (map.get m other)) left ∙ ap (found offset) (get_taken-other old ino other different);
}

-- a block more
module _ (old between new : AllPlaces) (ino offset place : ℕ) (were now : Places) where
  pub noted_of : ((node : ℕ) → map.get were node ≡ place_of old ino node) → IsLeft old between ino → now ≡ map.insert were offset place → new ≡ map.insert between ino now → IsNoted old new ino offset place
  noted_of same left put added = record {
    here = own offset ∙ ap (λ (m : Places). map.get m offset) put ∙ get_put were offset place;
    nodes = λ node different. own node ∙ ap (λ (m : Places). map.get m node) put ∙ get_put-other were offset place node different ∙ same node;
    files = λ other node different. ap (λ (m : AllPlaces). found node (map.get m other)) added ∙ ap (found node) (get_put-other between ino now other different) ∙ left.files other node different;
  }
    where
      own : (node : ℕ) → place_of new ino node ≡ map.get now node
      own node = ap (λ (m : AllPlaces). found node (map.get m ino)) added ∙ ap (found node) (get_put between ino now)
