-- What an image stands for, a pending tree and the image of a mount, where each address that is read has no other contents.
use Rattle.std.proofs.Common.{◌≡◌, ◌≢◌, ◌⊎◌, ℕ, ◌%◌, ◌^◌, ◌≤◌, IsTrue, List, [], length, Option, Some, None, refl, sym, ◌∙◌}
use Rattle.std.specs.List.{Contains}
use Rattle.std.proofs.lemmas.List.Elements.{Contains-get_or}
use Rattle.f2_format.specs.Geometry.{is_in_node}
use Rattle.f2_format.specs.Footer.{footer_version}
use Rattle.f2_format.specs.Pack.{head_of}
use Rattle.f2_disk.specs.Contents.{Contents, IsWhole}
use Rattle.f2_model.specs.Tree.{Rows}
use Rattle.f2_model.specs.State.{State, Mark}
use Rattle.f2_image.specs.Packs.{head_address, tail_address, other_side, recovery_version}
use Rattle.f2_image.specs.Chains.{Logged, chain}
use Rattle.f2_image_laws.specs.Chained.{contents_at, Follow}
use Rattle.f2_image_laws.specs.Depending.{DependsOn}
use Rattle.f2_stored.specs.Layout.{Position, Reference, Nids, Owners, Layout}
use Rattle.f2_stored.specs.Bases.{TellsCheckpoint, HoldsImage, HasPacks, IsPendingTail, HasNoLater, HoldsPending, HoldsSome}
use Rattle.f2_stored.specs.Stored.{KeepsPacks, KeepsImage}
use Rattle.f2_change_laws.proofs.Fewer.{Fewer, fewer_all}

module _ (lists new : Contents) (size : length new ≡ length lists) where
  pub image_kept : (held : Reference) (base : Rows) (marks : List Mark) → ((at : ℕ) → TellsCheckpoint held.ckpt at → Fewer lists new at) → ((at : ℕ) → DependsOn held.image held.ckpt at → Fewer lists new at)
      → HoldsImage lists held base marks → HoldsImage new held base marks
  image_kept held base marks tells depends holds = record {
    size = holds.size ∙ sym size;
    means = holds.means;
    tells = λ at is. (tells at is).one _ (holds.tells at is);
    read = λ at is. (depends at is).one _ (holds.read at is);
  }

  pub pending_kept : (held pending : Reference) (tree : Rows) → ((at : ℕ) → TellsCheckpoint pending.ckpt at → Fewer lists new at) → ((at : ℕ) → DependsOn pending.image pending.ckpt at → Fewer lists new at)
      → Fewer lists new pending.ckpt.head.log_start → HoldsPending lists held pending tree → HoldsPending new held pending tree
  pending_kept held pending tree tells depends start holds = record {
    holds = image_kept pending tree [] tells depends holds.holds;
    no_log = holds.no_log;
    starts = fewer_all lists new pending.ckpt.head.log_start (λ content. footer_version content ≢ recovery_version pending.ckpt) start holds.starts;
    geom = holds.geom;
    side = holds.side;
    version = holds.version;
  }

  -- a pending tree, where there is one
  pub some_kept : (held : Reference) (pending : Option Reference) (tree : Option Rows) → ((one : Reference) (rows : Rows) → pending ≡ Some one → HoldsPending lists held one rows → HoldsPending new held one rows)
      → HoldsSome lists held pending tree → HoldsSome new held pending tree
  some_kept held (Some one) (Some rows) kept holds = kept one rows refl holds
  some_kept held (Some one) None kept holds = absurd holds
  some_kept held None (Some rows) kept holds = absurd holds
  some_kept held None None kept holds = tt

  pub later_kept : (layout : Layout) → ((at : ℕ) → IsTrue (is_in_node layout.base.ckpt.geom at) → Fewer lists new at) → HasNoLater lists layout.base.ckpt → HasNoLater new layout.base.ckpt
  later_kept layout fewer none at inside = fewer_all lists new at (λ content. footer_version content % 2 ^ 32 ≤ layout.base.ckpt.head.version) (fewer at inside) (none at inside)

  -- the packs, where no head stands that didn't
  pub heads_kept : (held : Reference) (pending : Option Reference) → Fewer lists new (tail_address held.ckpt.side) → Fewer lists new (tail_address (other_side held.ckpt.side))
      → ((head : List ℕ) → Contains (contents_at new (head_address (other_side held.ckpt.side))) head → Contains (contents_at lists (head_address (other_side held.ckpt.side))) head)
      → HasPacks lists held pending → HasPacks new held pending
  heads_kept held pending own other heads packs = record {
    own = own.one _ packs.own;
    not_later = fewer_all lists new (tail_address (other_side held.ckpt.side)) (λ tail. ((head_of tail).version ≤ held.ckpt.head.version) ⊎ IsPendingTail pending tail) other packs.not_later;
    behind = λ head tail head_there tail_there pack. packs.behind head tail (heads head head_there) (other.from tail tail_there) pack;
  }

  -- what is kept at all times, by its parts
  pub packs_kept : (layout : Layout) (state : State) (log : List Position) (settled next : ℕ) (nids : Nids) (owners : Owners) (marks : List Mark) (acknowledged : ℕ) → KeepsPacks lists layout state
      → IsWhole (length new) new → HasPacks new layout.base layout.pending → HasNoLater new layout.base.ckpt → HoldsSome new layout.base layout.pending state.pending
      → KeepsPacks new (record layout { log = log; settled = settled; next = next; nids = nids; owners = owners }) (record state { marks = marks; acknowledged = acknowledged })
  packs_kept layout state log settled next nids owners marks acknowledged keeps whole packs no_later pending = record {
    whole = whole;
    packs = packs;
    no_later = no_later;
    pending = pending;
    format = keeps.format;
    next_format = keeps.next_format;
    version = keeps.version;
    early = keeps.early;
  }

  -- what is kept of the image of a mount
  pub mount_kept : (layout : Layout) (state : State) (pending : Option Reference) (log : List Position) (tree : Option Rows) → ((at : ℕ) → TellsCheckpoint layout.base.ckpt at → Fewer lists new at)
      → ((at : ℕ) → DependsOn layout.base.image layout.base.ckpt at → Fewer lists new at)
      → ((one : Logged) → Contains (chain layout.base.image layout.base.ckpt) one → Fewer lists new one.at)
      → ((next : ℕ) → Follow layout.base.ckpt.head.log_start (chain layout.base.image layout.base.ckpt) next → next ≢ 0 → Fewer lists new next)
      → KeepsImage lists layout state → KeepsImage new (record layout { pending = pending; log = log }) (record state { pending = tree })
  mount_kept layout state pending log tree tells depends logged ends keeps = record {
    base = image_kept layout.base state.base state.marks tells depends keeps.base;
    log = λ k d small. (logged _ (Contains-get_or (chain layout.base.image layout.base.ckpt) k d small)).one _ (keeps.log k d small);
    ends = λ next follow there. (ends next follow there).one _ (keeps.ends next follow there);
    acknowledged = keeps.acknowledged;
  }
