-- A packed layout of all directories of a base.
use Rattle.std.proofs.Common.{◌≡◌, inl, inr, ℕ, ◌<◌, nat_lt, ◌&&◌, Bool, true, false, cond, List, [], ◌∷◌, length, filter, map as map_list, IsSome, is_some, refl, sym, ap, ◌∙◌, true≢false}
use Rattle.std.specs.Prelude.{Option, Some, None}
use Rattle.std.specs.List.{flat_map, slice_get}
use Rattle.std.specs.Option.{unwrap_or}
use Rattle.std.specs.Ordering.{nat_cmp}
use Rattle.std.specs.FinMap as map
use Rattle.std.specs.FinMap.{nat_cmp-IsAntisymmetric}
use Rattle.std.specs.FinSet as set
use Rattle.std.proofs.lemmas.Bool.{and_parts, and_from, ltb-true, lt-ltb}
use Rattle.std.proofs.lemmas.Option.{none-some, same_Some, slice_get_within}
use Rattle.f2_format.specs.Dentry.{Dentry, dentries_of}
use Rattle.f2_model.specs.Tree.{Rows, is_directory}
use Rattle.f2_model.specs.State.{Inos, rolled}
use Rattle.f2_model.specs.declared.rows.Row.{Row}
use Rattle.f2_model.specs.declared.rows.Kind.{Kind}
use Rattle.f2_model.specs.declared.rows.Kind.TheVariants.{Regular, Directory}
use Rattle.f2_dentry_block.specs.Packed.{packed_blocks}
use Rattle.f2_stored.specs.Places.{dentries_at}
use Rattle.f2_block_laws.proofs.Keys.{key_of}
use Rattle.f2_block_laws.proofs.Members as members
use Rattle.f2_block_laws.proofs.Members.{in_filter, from_filter}
use Rattle.f2_block_laws.proofs.Sets.{in_set, from_set}
use Rattle.f2_place_laws.proofs.FlatLists.{in_flat, numbers_below, in_numbers}
use Rattle.f2_place_laws.proofs.FoundEntries.{map_option}
use Rattle.f2_place_laws.proofs.Lists.{IsIn, in_map}
use Rattle.f2_mount_laws.specs.Existing.{Relaid, places_of}
use Rattle.f2_mount_laws.proofs.Chosen.{chosen, all_chosen}
use Rattle.f2_packed_laws.specs.Packed.{IsDirectoryIn, HasPackedPages, IsPacked, PackedLayoutsExist}
use Rattle.f2_packed_laws.proofs.Listed.{listed}
use Rattle.f2_packed_laws.proofs.Rolled.{keyed as rolled_keyed}

-- the same member in the words of another crate
there_too : {X : Type 0} (x : X) (xs : List X) → members.IsIn x xs → IsIn x xs
there_too x [] h = absurd h
there_too x (y ∷ xs) (inl e) = inl e
there_too x (y ∷ xs) (inr h) = inr (there_too x xs h)

-- a row that is there and a directory's
abbrev some_directory : Option Row → Bool
some_directory None = false
some_directory (Some row) = is_directory row.kind

kind_is : (kind : Kind) → is_directory kind ≡ true → kind ≡ Directory
kind_is Directory e = refl
kind_is Regular e = absurd (true≢false (sym e))

row_is : (o : Option Row) → some_directory o ≡ true → (row : Row) × (o ≡ Some row) × (row.kind ≡ Directory)
row_is None e = absurd (true≢false (sym e))
row_is (Some row) e = (row, refl, kind_is row.kind e)

module _ (base tree : Rows) (keyed : (ino : ℕ) (row : Row) → map.get tree ino ≡ Some row → row.ino ≡ ino) where
  abbrev passes : ℕ → Bool
  passes ino = some_directory (map.get base ino)

  inos : List ℕ
  inos = filter passes (map.keys base)

  directories : Inos
  directories = set.from_list {R = nat_cmp} inos

  is_one : (ino : ℕ) → set.contains directories ino ≡ true → IsDirectoryIn base ino
  unfolding directories inos
  is_one ino has = row_is (map.get base ino) (from_filter passes ino (map.keys base) (from_set inos ino has)).0

  in_inos : (ino : ℕ) → IsDirectoryIn base ino → members.IsIn ino inos
  unfolding inos
  in_inos ino (row, there, kind) = in_filter passes ino (map.keys base) (ap some_directory there ∙ ap is_directory kind) (key_of nat_cmp-IsAntisymmetric base ino (ap is_some there))

  has_one : (ino : ℕ) → IsDirectoryIn base ino → set.contains directories ino ≡ true
  unfolding directories
  has_one ino is = in_set inos ino (in_inos ino is)

  abbrev dentries : ℕ → List Dentry
  dentries ino = (listed tree keyed ino).0

  abbrev blocks : ℕ → List (List ℕ)
  blocks ino = packed_blocks (dentries ino)

  abbrev with_pages : ℕ → List (ℕ × ℕ)
  with_pages ino = map_list (λ (page : ℕ). (ino, page)) (numbers_below (length (blocks ino)))

  all_pages : List (ℕ × ℕ)
  all_pages = flat_map with_pages inos

  in_pages : (ino page : ℕ) → set.contains directories ino ≡ true → page < length (blocks ino) → IsIn (ino, page) all_pages
  unfolding all_pages
  in_pages ino page has small =
      in_flat with_pages ino (ino, page) inos (there_too ino inos (in_inos ino (is_one ino has))) (in_map (λ (p : ℕ). (ino, p)) page (numbers_below (length (blocks ino))) (in_numbers (length (blocks ino)) page small))

  -- the pages, and their dentries
  abbrev page_for : ℕ × ℕ → Option ℕ
  page_for k = cond (set.contains directories k.0 && nat_lt k.1 (length (blocks k.0))) (Some 0) None

  abbrev dentries_for : ℕ × ℕ → Option (List Dentry)
  dentries_for k = cond (set.contains directories k.0) (map_option dentries_of (slice_get (blocks k.0) k.1)) None

  page_is : (k : ℕ × ℕ) (at : ℕ) → page_for k ≡ Some at → (set.contains directories k.0 ≡ true) × (k.1 < length (blocks k.0)) × (at ≡ 0)
  page_is k at is = by_test (set.contains directories k.0 && nat_lt k.1 (length (blocks k.0))) refl is
    where
      by_test : (b : Bool) → (set.contains directories k.0 && nat_lt k.1 (length (blocks k.0))) ≡ b → cond b (Some 0) None ≡ Some at → (set.contains directories k.0 ≡ true) × (k.1 < length (blocks k.0)) × (at ≡ 0)
      by_test true e same = let parts = and_parts (set.contains directories k.0) (nat_lt k.1 (length (blocks k.0))) e in (parts.0, ltb-true k.1 (length (blocks k.0)) parts.1, sym (same_Some 0 at same))
      by_test false e same = absurd (none-some at same)

  dentries_are : (k : ℕ × ℕ) (its : List Dentry) → dentries_for k ≡ Some its → (set.contains directories k.0 ≡ true) × (k.1 < length (blocks k.0))
  dentries_are k its is = by_test (set.contains directories k.0) refl is
    where
      by_block : set.contains directories k.0 ≡ true → (o : Option (List ℕ)) → slice_get (blocks k.0) k.1 ≡ o → map_option dentries_of o ≡ Some its → (set.contains directories k.0 ≡ true) × (k.1 < length (blocks k.0))
      by_block has None e same = absurd (none-some its same)
      by_block has (Some block) e same = (has, slice_get_within (blocks k.0) k.1 block e)

      by_test : (b : Bool) → set.contains directories k.0 ≡ b → cond b (map_option dentries_of (slice_get (blocks k.0) k.1)) None ≡ Some its → (set.contains directories k.0 ≡ true) × (k.1 < length (blocks k.0))
      by_test true e same = by_block e (slice_get (blocks k.0) k.1) refl same
      by_test false e same = absurd (none-some its same)

  relaid : Relaid
  relaid = record { directories = directories; pages = chosen page_for all_pages; dentries = chosen dentries_for all_pages }

  pages_are : (k : ℕ × ℕ) → map.get relaid.pages k ≡ page_for k
  unfolding relaid
  pages_are k = all_chosen page_for all_pages (λ j at is. (let one = page_is j at is in in_pages j.0 j.1 one.0 one.1)) k

  names_are : (k : ℕ × ℕ) → map.get relaid.dentries k ≡ dentries_for k
  unfolding relaid
  names_are k = all_chosen dentries_for all_pages (λ j its is. (let one = dentries_are j its is in in_pages j.0 j.1 one.0 one.1)) k

  module _ (ino : ℕ) (has : set.contains directories ino ≡ true) where
    page_there : (page : ℕ) → page < length (blocks ino) → IsSome (map.get relaid.pages (ino, page))
    page_there page small =
        ap is_some (pages_are (ino, page) ∙ ap (λ b. cond b (Some 0) None) (and_from (set.contains directories ino) (nat_lt page (length (blocks ino))) has (lt-ltb page (length (blocks ino)) small)))

    there_page : (page : ℕ) (o : Option ℕ) → map.get relaid.pages (ino, page) ≡ o → is_some o ≡ true → page < length (blocks ino)
    there_page page None e some = absurd (true≢false (sym some))
    there_page page (Some at) e some = (page_is (ino, page) at (sym (pages_are (ino, page)) ∙ e)).1

    told : (page : ℕ) (block : List ℕ) → slice_get (blocks ino) page ≡ Some block → dentries_at (places_of relaid) ino page ≡ dentries_of block
    told page block there =
        ap (λ o. unwrap_or o [])
        (names_are (ino, page) ∙ ap (λ b. cond b (map_option dentries_of (slice_get (blocks ino) page)) None) has ∙ ap (map_option dentries_of) there)

    packed_pages : HasPackedPages tree relaid ino
    packed_pages = record {
      dentries = dentries ino;
      are = (listed tree keyed ino).1;
      packed = record {
        pages = λ page. ((λ some. there_page page (map.get relaid.pages (ino, page)) refl some), page_there page);
        told = told;
      };
    }

  directories_are : relaid.directories ≡ directories
  unfolding relaid
  directories_are = refl

  pub packed_layout : (relaid : Relaid) × IsPacked base tree relaid
  packed_layout = (
    relaid,
    record {
      all = λ ino. ((λ has. is_one ino (sym (ap (λ (d : Inos). set.contains d ino) directories_are) ∙ has)), (λ is. ap (λ (d : Inos). set.contains d ino) directories_are ∙ has_one ino is));
      only = λ ino page at there. (
          let one = page_is (ino, page) at (sym (pages_are (ino, page)) ∙ there) in
          (ap (λ (d : Inos). set.contains d ino) directories_are ∙ one.0, one.2)
          );
      packed = λ ino has. packed_pages ino (sym (ap (λ (d : Inos). set.contains d ino) directories_are) ∙ has);
    },
  )

pub exist : PackedLayoutsExist
exist image ckpt base marks means = packed_layout base (rolled base marks) (rolled_keyed image ckpt base marks means)
