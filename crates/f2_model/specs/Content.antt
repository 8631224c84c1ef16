-- The bytes of a file, page by page.
use Rattle.std.specs.Prelude.{ℕ, ◌+◌, ◌-◌, ◌*◌, ◌/◌, ◌%◌, min, max, Bool, nat_lt, if◌then◌else◌, ◌==◌, List, [], ◌++◌, map, take, drop, replicate, slice_index}
use Rattle.std.specs.Option.{unwrap_or}
use Rattle.std.specs.List.{fold, range_with_len}
use Rattle.std.specs.Ordering.{nat_cmp}
use Rattle.std.specs.FinMap as map
use Rattle.f2_model.specs.declared.requests.Piece.{Piece}

-- the bytes of a page, and of a block of the disk (F2FS_BLKSIZE)
abbrev pub PAGE : ℕ
PAGE = 4096

-- pages of a file: from page numbers to their bytes
abbrev pub PageMap : Type 0
PageMap = map.FinMap nat_cmp (List ℕ)

-- a page of zeros
unfoldable pub zero_page : List ℕ
zero_page = replicate PAGE 0

-- what a page reads as: a page that isn't there reads as zeros
abbrev pub page_of : PageMap → ℕ → List ℕ
page_of pages page = unwrap_or (map.get pages page) zero_page

-- the byte of a file at an offset
abbrev pub byte_at : PageMap → ℕ → ℕ
byte_at pages offset = slice_index (page_of pages (offset / PAGE)) (offset % PAGE)

-- the bytes of a file from one offset up to another
abbrev pub bytes_between : PageMap → ℕ → ℕ → List ℕ
bytes_between pages from to = map (byte_at pages) (range_with_len from (to - from))

-- a page after one byte was put at each place from one up to another
abbrev pub filled : List ℕ → ℕ → ℕ → ℕ → List ℕ
filled page from to byte = take from page ++ replicate (to - from) byte ++ drop to page

-- the offset at which a piece ends
abbrev pub end_of : Piece → ℕ
end_of piece = piece.off + piece.len

-- the pages that a piece reaches, rising
abbrev pub pages_of_piece : Piece → List ℕ
pages_of_piece piece =
    if piece.len == 0 then [] else
    range_with_len (piece.off / PAGE) ((end_of piece - 1) / PAGE - piece.off / PAGE + 1)

-- pages after the part of a piece that lies in one of them was put
abbrev pub put_in_page : Piece → PageMap → ℕ → PageMap
put_in_page piece pages page =
    let from = max piece.off (page * PAGE) - page * PAGE in
    let to = min (end_of piece) (page * PAGE + PAGE) - page * PAGE in
    map.insert pages page (filled (page_of pages page) from to piece.byte)

-- pages after a piece was put, and after pieces were put one after another
abbrev pub put_piece : PageMap → Piece → PageMap
put_piece pages piece = fold (put_in_page piece) pages (pages_of_piece piece)

abbrev pub put_pieces : PageMap → List Piece → PageMap
put_pieces pages pieces = fold put_piece pages pieces

-- the end of the piece that reaches furthest, or the size where that is greater
abbrev pub raised_size : ℕ → List Piece → ℕ
raised_size size pieces = fold (λ most piece. max most (end_of piece)) size pieces

-- whether a page begins before a size
abbrev pub begins_before : ℕ → ℕ → Bool
begins_before size page = nat_lt (page * PAGE) size

-- pages after a cut at a size: those that begin at it or past it are gone, and the rest of the page that it cuts is zeros
abbrev pub cut_pages : PageMap → ℕ → PageMap
cut_pages pages size =
    let kept = map.retain_keys pages (begins_before size) in
    if size % PAGE == 0 then kept else
    (if map.contains_key kept (size / PAGE) then map.insert kept (size / PAGE) (filled (page_of kept (size / PAGE)) (size % PAGE) PAGE 0) else kept)
