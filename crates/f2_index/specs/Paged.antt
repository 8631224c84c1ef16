-- A file's pages with their addresses, and which of its direct nodes are dirty.
use Rattle.std.specs.Prelude.{◌≡◌, ℕ, Bool, false, not, ◌&&◌, ◌||◌, Option, None, Some, refl, nat_eq, nat_lt}
use Rattle.std.specs.Ordering.{nat_cmp}
use Rattle.std.specs.Coded.{Coded, code_by, coded×, coded_ℕ}
use Rattle.std.specs.FinMap as map
use Rattle.std.specs.FinSet as set
use Rattle.f2_format.specs.Offsets.{direct_of, nodes_over}

-- the address of each page, and the offsets of the dirty direct nodes (i_addr and the dnodes' addr of f2fs_fs.h)
pub record Paged : Type 0 where
  pub pages : map.FinMap nat_cmp ℕ
  pub dirty : set.FinSet nat_cmp

-- it is stored as the pair of its fields
abbrev pub paged_code : Coded Paged
paged_code =
    code_by (map.FinMap nat_cmp ℕ × set.FinSet nat_cmp) (coded× (map.code coded_ℕ coded_ℕ) (set.code coded_ℕ))
    (λ i. (i.pages, i.dirty))
    (λ p. record { pages = p.0; dirty = p.1 })
    (λ _. refl)

-- the offsets of all the nodes that a file with these pages has
abbrev pub nodes_of_pages : map.FinMap nat_cmp ℕ → set.FinSet nat_cmp
nodes_of_pages pages = nodes_over (map.keys pages)

-- whether an offset is that of the page's direct node
abbrev pub is_direct_of : ℕ → Option ℕ → Bool
is_direct_of offset None = false
is_direct_of offset (Some direct) = nat_eq direct offset

-- the pages whose addresses stand in this direct node
abbrev pub pages_of : map.FinMap nat_cmp ℕ → ℕ → map.FinMap nat_cmp ℕ
pages_of pages offset = map.retain_keys pages (λ page. is_direct_of offset (direct_of page))

-- whether the direct node has a page
abbrev pub has_page : map.FinMap nat_cmp ℕ → ℕ → Bool
has_page pages offset = nat_lt 0 (map.len (pages_of pages offset))

-- the set with a page's direct node, where it has one
abbrev pub with_direct : set.FinSet nat_cmp → Option ℕ → set.FinSet nat_cmp
with_direct dirty None = dirty
with_direct dirty (Some offset) = set.insert dirty offset

-- the page's address is set, and its direct node is dirty (set_page_dirty of fs/f2fs/node.c, on a changed node)
abbrev pub with_address : Paged → ℕ → ℕ → Paged
with_address index page at =
    record {
      pages = map.insert index.pages page at;
      dirty = with_direct index.dirty (direct_of page);
    }

-- the pages from this one on leave: a direct node is dirty then where it has a page, and was dirty or lost one
-- (truncate_nodes and truncate_data_blocks of the kernel)
pub record IsCut (from : ℕ) (old new : Paged) : Type 0 where
  pub pages : new.pages ≡ map.retain_keys old.pages (λ page. nat_lt page from)
  pub dirty : (offset : ℕ) → set.contains new.dirty offset ≡ (has_page new.pages offset && (set.contains old.dirty offset || has_page (map.retain_keys old.pages (λ page. not (nat_lt page from))) offset))
