-- A disk that was flushed keeps what a mount finds on it.
use Rattle.std.proofs.Common.{◌≡◌, ◌⊎◌, inl, inr, ℕ, zero, suc, ◌+◌, ◌%◌, ◌^◌, ◌<◌, ◌≤◌, List, [], ◌∷◌, length, slice_index_or, Contains, sym, ap, ◌∙◌, subst, subst₂, arith}
use Rattle.std.specs.Prelude.{None}
use Rattle.std.specs.FinMap as map
use Rattle.std.proofs.lemmas.List.{length-map}
use Rattle.f2_format.specs.Footer.{footer_version}
use Rattle.f2_format.specs.Pack.{head_of, IsPack}
use Rattle.f2_disk.specs.Contents.{Contents, IsWhole, latest, flushed}
use Rattle.f2_model.specs.State.{State, MayRemain}
use Rattle.f2_model.specs.Mounts.{mounting}
use Rattle.f2_image.specs.Images.{Image, block_at}
use Rattle.f2_image.specs.Packs.{Side, A, B, other_side, head_address, tail_address, GoesBefore, Checkpoint, version_of}
use Rattle.f2_image.specs.Chains.{chain}
use Rattle.f2_image.specs.Meanings.{IsLeft, IsSafe}
use Rattle.f2_image_laws.specs.Chained.{contents_at}
use Rattle.f2_stored.specs.Layout.{Layout}
use Rattle.f2_stored.specs.Bases.{HasPacks, IsBehind, IsPendingTail}
use Rattle.f2_stored.specs.Stored.{KeepsPacks, KeepsImage}
use Rattle.f2_stored.specs.Stored as stored
use Rattle.f2_stored_laws.specs.Mounting.{FindsStored}
use Rattle.f2_stored_laws.proofs.Images.{latest_is_image}
use Rattle.f2_stored_laws.proofs.Flushed.{flushed_at, flushed_each, flushed_whole}

-- where an image is all that is known
layout_of : Image → Checkpoint → Layout
layout_of image ckpt = record { base = record { image = image; ckpt = ckpt }; pending = None; log = []; settled = 0; next = 0; nids = map.empty; owners = map.empty }

behind_of : (image : Image) (side : Side) (newest : ℕ) → version_of image side ≡ newest → GoesBefore image side → IsBehind side (version_of image (other_side side)) newest
behind_of image A newest is first = subst (λ n. version_of image B ≤ n) is first
behind_of image B newest is first = subst (λ n. version_of image A < n) is first

module _ (lists : Contents) (state : State) (whole : IsWhole (length lists) lists) (left : IsLeft state (latest lists)) where
  image : Image
  image = latest lists

  layout : Layout
  layout = layout_of image left.ckpt

  packs : HasPacks (flushed lists) (record { image = image; ckpt = left.ckpt }) None
  unfolding image
  packs =
      let side = left.ckpt.side in
      record {
        own = flushed_at lists (tail_address side);
        not_later = flushed_each lists (λ tail. ((head_of tail).version ≤ left.ckpt.head.version) ⊎ IsPendingTail None tail) (tail_address (other_side side)) (inl (left.clean.tails (other_side side)));
        behind = λ head tail has_head has_tail pack.
            let head_is = only (head_address (other_side side)) head has_head in
            let tail_is = only (tail_address (other_side side)) tail has_tail in
            inl (subst (λ block. IsBehind side (head_of block).version left.ckpt.head.version) (sym head_is)
            (behind_of image side left.ckpt.head.version (ap (λ head. head.version) (sym left.means.checkpoint.head))
            (left.means.checkpoint.newest.newest (subst₂ (IsPack left.ckpt.geom) head_is tail_is pack))));
      }
    where
      only_one : (content block : List ℕ) → Contains (content ∷ []) block → block ≡ content
      only_one content block (zero, within, is) = sym is
      only_one content block (suc k, within, is) = absurd (omega (arith, within))

      only : (at : ℕ) (content : List ℕ) → Contains (contents_at (flushed lists) at) content → content ≡ block_at (latest lists) at
      only at content has = only_one (block_at (latest lists) at) content (subst (λ list. Contains list content) (flushed_at lists at) has)

  -- its version may be followed by one more
  early : state.version + 1 < 2 ^ 32 → left.ckpt.head.version < 2 ^ 32
  early more = by_case left.remains
    where
      by_case : MayRemain state left.meaning → left.ckpt.head.version < 2 ^ 32
      by_case (inl (place, from, to, is)) = let same : left.ckpt.head.version ≡ state.version = left.version ∙ ap (λ m. m.version) is in omega (arith, same, more)
      by_case (inr (tree, pending, is)) = let same : left.ckpt.head.version ≡ state.version + 1 = left.version ∙ ap (λ m. m.version) is in omega (arith, same, more)

  keeps_packs : state.version + 1 < 2 ^ 32 → KeepsPacks (flushed lists) layout (mounting state left.meaning)
  unfolding image layout layout_of
  keeps_packs more = record {
    whole = flushed_whole lists whole;
    packs = packs;
    no_later = λ at zone. flushed_each lists (λ content. footer_version content % 2 ^ 32 ≤ left.ckpt.head.version) at (left.clean.nodes at zone);
    pending = tt;
    format = left.format;
    next_format = tt;
    version = left.version;
    early = early more;
  }

  keeps_image : KeepsImage (flushed lists) layout (mounting state left.meaning)
  unfolding image layout layout_of
  keeps_image = record {
    base = record {
      size = sym (length-map (latest lists) (λ content. content ∷ []));
      means = left.means;
      tells = λ at tells. flushed_at lists at;
      read = λ at needs. flushed_at lists at;
    };
    log = λ place one small. flushed_at lists (slice_index_or (chain (latest lists) left.ckpt) place one).at;
    ends = λ next follow there. flushed_at lists next;
    acknowledged = omega arith;
  }

  found : state.version + 1 < 2 ^ 32 → FindsStored lists state
  found more = record { meaning = left.meaning; layout = layout; remains = left.remains; stored = stored.mounting (keeps_packs more) keeps_image }

pub finds_stored : (lists : Contents) (state : State) → IsWhole (length lists) lists → IsSafe lists state → state.version + 1 < 2 ^ 32 → FindsStored lists state
finds_stored lists state whole safe more = found lists state whole (safe.1 (latest lists) (latest_is_image lists whole.held)) more
