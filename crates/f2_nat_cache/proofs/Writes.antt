-- The pending entries of a block, written into it place by place.
use Rattle.std.proofs.Common.{◌≡◌, ℕ, ◌+◌, List, refl, add-one}
use Rattle.f2_format.specs.Journal.{JournalList}
use Rattle.f2_nat_cache.specs.Entries.{Entries}
use Rattle.f2_nat_cache.specs.Table.{pending, nid_at, with_entry, with_pending_below}

pub with_pending-none : (dirty : Entries) (journal : JournalList) (block : ℕ) (content : List ℕ) → with_pending_below dirty journal block content 0 ≡ content
unfolding with_pending_below
with_pending-none dirty journal block content = refl

-- one place more
pub with_pending-more : (dirty : Entries) (journal : JournalList) (block : ℕ) (content : List ℕ) (place : ℕ)
    → with_pending_below dirty journal block content (place + 1) ≡ with_entry (with_pending_below dirty journal block content place) place (pending dirty journal (nid_at block place))
unfolding with_pending_below
with_pending-more dirty journal block content place = rw add-one refl
