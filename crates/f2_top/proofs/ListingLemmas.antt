-- What the command does that prints the tree of an image, from what its parts do.
use Rattle.std.proofs.Common.{◌≡◌, ℕ, List, [], ◌∷◌, length, map, get_or, refl, sym, ap, ◌∙◌, subst, arith}
use Rattle.std.specs.Prelude.{codes, Option, option_map}
use Rattle.std.specs.Io.KnownBytes.{Appends}
use Rattle.f2_disk.specs.Contents.{Contents, WhereTold, latest, flushed}
use Rattle.f2_disk.specs.Meter.{Meter, HasFailed}
use Rattle.f2_disk.proofs.ContentsLaws.{latest_alone}
use Rattle.f2_format.specs.Geometry.{ImageGeometry}
use Rattle.f2_found.specs.Found.{IsFound}
use Rattle.f2_found.specs.Places.{IsWithinBlocks}
use Rattle.f2_found.specs.declared.found.Found.{Found}
use Rattle.f2_image.specs.Images.{Image}
use Rattle.f2_model.specs.State.{rolled}
use Rattle.f2_model.specs.Tree.{Rows}
use Rattle.f2_mount.specs.Recovering.{IsRecovered}
use Rattle.f2_mount.specs.declared.recovering.Recovered.{Recovered}
use Rattle.f2_play.specs.Endings.{last_line}
use Rattle.f2_play.specs.declared.status.Status.{Status}
use Rattle.f2_play.specs.declared.status.Status.TheVariants as status
use Rattle.f2_recover.specs.Told.{Tells}
use Rattle.f2_recover.specs.declared.faults.BadImage.{BadImage}
use Rattle.f2_recover.specs.declared.faults.MountFault.{MountFault}
use Rattle.f2_recover.specs.declared.faults.MountFault.TheVariants as mount
use Rattle.f2_script.specs.Trees.{tree_spelling}
use Rattle.f2_start.specs.Starts.{IsStanding}
use Rattle.f2_top.specs.Listing.{IsTree, ShowsTree, ListsBy, Lists, IsListed}
use Rattle.f2_top.specs.Making.{IsMkfs, ReadsTheSame}
use Rattle.f2_top.specs.Replay.{Finishes, said_whole, broken_off}
use Rattle.f2_top.specs.Streams.{PutsSome}
use Rattle.f2_top.specs.Words.{IsReplay}

-- the first of two items
pub two_items : {X Y : Type 0} (f : X → Y) (xs : List X) (a : X) → length xs ≡ 2 → a ≡ get_or xs 0 a → (y : Y) × (map f xs ≡ f a ∷ y ∷ [])
two_items f [] a n p = absurd (omega (arith, n))
two_items f (x ∷ []) a n p = absurd (omega (arith, n))
two_items f (x ∷ y ∷ []) a n p = (f y, ap (λ t. f t ∷ f y ∷ []) (sym p))
two_items f (x ∷ y ∷ z ∷ xs) a n p = absurd (omega (arith, n))

-- two words ask for a tree where the first does
pub asks_tree : (words : List (List ℕ)) (command image : List ℕ) → words ≡ command ∷ image ∷ [] → command ≡ codes "tree" → IsTree words
asks_tree words command image two said = record { image = image; are = two ∙ ap (λ t. t ∷ image ∷ []) said }

pub first_asks : (words : List (List ℕ)) (command image : List ℕ) → words ≡ command ∷ image ∷ [] → IsTree words → command ≡ codes "tree"
first_asks words command image two tree = ap (λ (l : List (List ℕ)). get_or l 0 []) (sym two ∙ tree.are)

-- after a flush a disk tells the image that it told before
pub tells_flushed : (told now : Option Contents) (image : Image) → now ≡ option_map flushed told → Tells told image → Tells now image
tells_flushed told now image flush tells = (flushed tells.0, flush ∙ ap (option_map flushed) tells.1, tells.2 ∙ sym (latest_alone (latest tells.0)))

-- a disk that holds what it held tells the same image
pub tells_still : (told now : Option Contents) (image : Image) → now ≡ told → Tells told image → Tells now image
tells_still told now image same tells = subst (λ t. Tells t image) (sym same) tells

-- the text of what was recovered of an image
pub shows_tree : (image : Image) (recovered : Recovered) (text : List ℕ) → IsRecovered image recovered
    → ((rows : Rows) → IsFound image rows recovered.tree → text ≡ tree_spelling rows) → ShowsTree image text
shows_tree image recovered text is spells = record {
  base = is.base;
  marks = is.marks;
  means = (is.ckpt, is.is.means);
  spelled = spells (rolled is.base is.marks) is.is.found;
}

-- a fault of a mount, told by its status
pub fault_told : (told : Option Contents) (old new : Meter) (fault : MountFault) (s : Status)
    → ((bad : BadImage) → fault ≡ mount.Bad bad → s ≡ status.BadImage bad) → (fault ≡ mount.Read → s ≡ status.DiskFault) → (fault ≡ mount.Memory → s ≡ status.Memory)
    → ((image : Image) → Tells told image → IsStanding image fault) → (fault ≡ mount.Read → HasFailed old new)
    → ListsBy told old new s (last_line s)
fault_told told old new (mount.Bad bad) s as_bad as_read as_memory standing failed =
    subst (λ e. ListsBy told old new e (last_line e)) (sym (as_bad bad refl)) (standing, refl)
fault_told told old new mount.Read s as_bad as_read as_memory standing failed =
    subst (λ e. ListsBy told old new e (last_line e)) (sym (as_read refl)) (failed refl, refl)
fault_told told old new mount.Memory s as_bad as_read as_memory standing failed =
    subst (λ e. ListsBy told old new e (last_line e)) (sym (as_memory refl)) refl

-- the sink failed in a text that is printed
pub listed_cut : (told now : Option Contents) (old new : Meter) (before after : Option (List ℕ)) (s : Status) (text : List ℕ)
    → WhereTold told now ReadsTheSame → ListsBy told old new s text → PutsSome before after text → IsListed told now old new before after status.SinkFault
listed_cut told now old new before after s text kept lists some = record {
  kept = kept;
  out = some.gone;
  written = some.written;
  lists = record { status = s; text = text; lists = lists; cut = some.cut };
}
