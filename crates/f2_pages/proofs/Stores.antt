-- A store's value and its invariant, field by field.
use Rattle.std.proofs.Common.{◌≡◌, ℕ, ◌⊎◌, inl, inr, List, Option, None, Some, IsSome, is_some, IfSome, Result, Ok, Err, OnErr, ap, sym, ◌∙◌, ◌-◌, ◌<◌, ◌≤◌, Bool, true, false, refl, if◌then◌else◌, arith}
use Rattle.std.specs.Prelude.{option_map}
use Rattle.std.specs.Map.{lookup}
use Rattle.f2_disk.specs.Contents.{Contents, list_at, last_of}
use Rattle.std.specs.FinMap as map
use Rattle.f2_pages.specs.Kept.{Pages, Kept, IsStore, IsCurrent, IsRead}
use Rattle.f2_pages.proofs.Pages.{Page, page_eq, view, shown, get-view, get-shown, len-remove-le}

pub same_kept : {d d' c c' : Pages} {s s' r r' : ℕ} → d ≡ d' → c ≡ c' → s ≡ s' → r ≡ r' → ◌≡◌ {A = Kept} (record { dirty = d; clean = c; spare = s; room = r }) (record { dirty = d'; clean = c'; spare = s'; room = r' })
same_kept d c s r = λ i. record { dirty = d i; clean = c i; spare = s i; room = r i }

-- no more clean pages are kept than before
pub IsStore-kept : (k : Kept) (places blocks : ℕ) (dirty clean : Pages) (spare room places' blocks' : ℕ) → IsStore k places blocks → spare ≤ places' → spare ≤ blocks' → room ≡ k.room → map.len clean ≤ map.len k.clean → IsStore (record { dirty = dirty; clean = clean; spare = spare; room = room }) places' blocks'
IsStore-kept k places blocks dirty clean spare room places' blocks' is enough_places enough_blocks same fewer =
    record {
      places_enough = enough_places;
      blocks_enough = enough_blocks;
      room_there = omega (arith, is.room_there);
      bounded = omega (arith, is.bounded);
    }

pub len-forgotten : (old new : Pages) (page : Page) → new ≡ map.remove old page → map.len new ≤ map.len old
len-forgotten old new page e = rw e (len-remove-le old page)

-- what a put takes of what is spare, by whether the page is dirty
pub spent_none : (dirty : Bool) (spare : ℕ) → dirty ≡ true → spare ≡ spare - (if dirty then 0 else 1)
spent_none dirty spare e = rw e (omega arith)

pub spent_one : (dirty : Bool) (spare : ℕ) → dirty ≡ false → spare - 1 ≡ spare - (if dirty then 0 else 1)
spent_one dirty spare e = rw e refl

-- the content of a page that is dirty
pub dirty-at : {Y : Type 0} (value : Y → List ℕ) (es : List (Page × Y)) (clean : Pages) (spare room : ℕ) (k : Kept) (page : Page) → ◌≡◌ {A = Kept} (record { dirty = view (shown value es); clean = clean; spare = spare; room = room }) k → map.get k.dirty page ≡ option_map value (lookup (page_eq page) es)
dirty-at value es clean spare room k page is = ap (λ (k : Kept). map.get k.dirty page) (sym is) ∙ get-shown value es page

-- the content of a page that is clean
pub clean-at : (dirty : Pages) (es : List (Page × List ℕ)) (spare room : ℕ) (k : Kept) (page : Page) → ◌≡◌ {A = Kept} (record { dirty = dirty; clean = view es; spare = spare; room = room }) k → map.get k.clean page ≡ lookup (page_eq page) es
clean-at dirty es spare room k page is = ap (λ (k : Kept). map.get k.clean page) (sym is) ∙ get-view es page

-- what a read gives, by where the page is kept
pub read_dirty : (k : Kept) (page : Page) (told : Option Contents) (at : ℕ) (content dirty : List ℕ) → map.get k.dirty page ≡ Some dirty → content ≡ dirty → IsRead k page told at content
read_dirty k page told at content dirty e same = rw e same

pub read_clean : (k : Kept) (page : Page) (told : Option Contents) (at : ℕ) (content : List ℕ) → map.get k.dirty page ≡ None → map.get k.clean page ≡ Some content → IsCurrent k page told at → IsRead k page told at content
read_clean k page told at content none e current = rw none (rw e at current)

pub read_block : (k : Kept) (page : Page) (told : Option Contents) (at : ℕ) (content : List ℕ) → map.get k.dirty page ≡ None → IfSome told (λ lists. content ≡ last_of (list_at lists at)) → IsRead k page told at content
read_block k page told at content none last = rw none last

pub none_kept : (k : Kept) (page : Page) → map.get k.dirty page ≡ None → map.get k.clean page ≡ None → IsSome (map.get k.dirty page) ⊎ IsSome (map.get k.clean page) → ⊥
none_kept k page none none' (inl some) = let wrong : ◌≡◌ false true = sym (ap is_some none) ∙ some in cc
none_kept k page none none' (inr some) = let wrong : ◌≡◌ false true = sym (ap is_some none') ∙ some in cc

pub same-len-le : (old new : Pages) → new ≡ old → map.len new ≤ map.len old
same-len-le old new e = rw e (omega arith)

-- a clause on one variant, where the fact holds whatever the variant
pub on_err : {A E : Type 0} (r : Result A E) (P : Type 0) → P → OnErr r P
on_err (Ok x) P p = tt
on_err (Err e) P p = p

-- of two pages one is left after a put
pub some_left : (dirty : Bool) (spare : ℕ) → 2 ≤ spare → 0 < spare - (if dirty then 0 else 1)
some_left true spare two = omega arith
some_left false spare two = omega arith
