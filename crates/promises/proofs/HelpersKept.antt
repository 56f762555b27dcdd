-- What `specs/Helpers.antt` says of the calls between our crates.
use Rattle.promises.specs.Helpers.{Crc32Helpers, LayoutHelpers, FieldsHelpers, CoordinatesHelpers, RowsHelpers, SourcesHelpers, SortingHelpers, ItemsHelpers, ActiveHelpers, FramesHelpers, LogHelpers, LinksHelpers, PiecesHelpers, TreeHelpers}
use Prim.Native.Nat.{ℕ}
use native.Mathlib.Omega.{arith}
use mathlib.Core.Path.{◌≡◌, refl, sym, ap, ap₂, ◌∙◌}
use mathlib.Core.Bool.{Bool, true, false}
use mathlib.Core.List.{List, []}
use lib.Dec.{ltb}
use lib.ListN.{take}
use borrow.Author.Tests.{ltb-true, ltb-false}
use Rattle.crc32.specs.Crc.{all_ones, bytes_in}
use Rattle.pieces.specs.declared.Sum.{Sum}
use Rattle.pieces.specs.Sums.{Sums}
use Rattle.links.specs.Links.{plain_rows}
use Rattle.tree.specs.declared.Place.{Place}
use Rattle.tree.specs.Grown.{Once, Finds, cell_of}
use Rattle.tree.specs.Grown.Finds.{found, none}
use Rattle.promises.proofs.OneAnswers.{one_answer, exact, exact_ok, exact_after}

pub crc32_helpers : Crc32Helpers
crc32_helpers =
    record {
      crc32_with_one_answer = λ κs tables bytes. exact;
      crc_update_one_answer = λ κs tables c bytes. exact;
    }

pub layout_helpers : LayoutHelpers
layout_helpers =
    record {
      caption_offset_one_answer = λ κs d. exact;
      item_length_one_answer = λ κs d count. exact;
      record_length_one_answer = λ κs d count. exact;
    }

pub fields_helpers : FieldsHelpers
fields_helpers =
    record {
      get_u32_one_answer = λ κs bytes at. exact;
      get_u64_one_answer = λ κs bytes at. exact;
      put_u8_one_answer = λ κs out at v. exact_after;
      put_u32_one_answer = λ κs out at v. exact_after;
      put_u64_one_answer = λ κs out at v. exact_after;
      copy_one_answer = λ κs out source. exact_after;
    }

pub coordinates_helpers : CoordinatesHelpers
coordinates_helpers =
    record {
      check_coordinates_one_answer = λ κs bytes at d cosine. exact;
    }

pub rows_helpers : RowsHelpers
rows_helpers =
    record {
      row_pack_one_answer = λ κs self. exact;
      operation_pack_one_answer = λ κs self. exact;
      row_at_one_answer = λ κs rows node. exact;
      set_row_one_answer = λ κs rows node row. exact_after;
      operation_at_one_answer = λ κs words i. exact;
    }

pub sources_helpers : SourcesHelpers
sources_helpers =
    record {
      shown_part_one_answer = λ κs shown d row. exact;
      outside_one_answer = λ κs snapshot log place. exact;
      cut_contract = λ κs snapshot log place r p. record { bytes_are = p.0; start_is = p.1 };
      cut_one_answer = λ snapshot log place r s m n. (one_answer m.start_is n.start_is, one_answer m.bytes_are n.bytes_are);
    }

pub sorting_helpers : SortingHelpers
sorting_helpers =
    record {
      is_rising_one_answer = λ κs rows active count. exact;
    }

pub items_helpers : ItemsHelpers
items_helpers =
    record {
      check_caption_one_answer = λ κs config bytes end at. exact;
      check_item_one_answer = λ κs short config bytes end at. exact;
    }

pub active_helpers : ActiveHelpers
active_helpers =
    record {
      clear_contract = λ κs rows entries rows' entries' p. record { rows_are = p.0; entries_are = p.1 };
      clear_one_answer = λ rows entries r s x y m n. (one_answer m.rows_are n.rows_are, one_answer m.entries_are n.entries_are);
      activate_contract = λ κs rows count entries r rows' entries' p. record { result_is = p.0; rows_are = p.1.0; entries_are = p.1.1 };
      activate_one_answer = λ rows count entries r s x y z w m n. (one_answer m.result_is n.result_is, one_answer m.rows_are n.rows_are, one_answer m.entries_are n.entries_are);
    }

pub frames_helpers : FramesHelpers
frames_helpers =
    record {
      write_opcode_one_answer = λ κs out opcode sequence. exact_after;
      write_delete_one_answer = λ κs out sequence id. exact_after;
      seal_one_answer = λ κs out count. exact_after;
      read_envelope_one_answer = λ κs log at. exact;
      payload_crc_holds_one_answer = λ κs tables log at count. exact;
    }

pub log_helpers : LogHelpers
log_helpers =
    record {
      read_operation_one_answer = λ κs config log end tag at. exact;
      stored_operation_one_answer = λ κs config log end tag at. exact_ok;
      read_frame_one_answer = λ κs tables config log previous at. exact;
    }

pub links_helpers : LinksHelpers
links_helpers =
    record {
      plain_one_answer = λ κs word. exact;
      deleted_word_one_answer = λ κs word. exact;
      caption_length_one_answer = λ κs word. exact;
      link_at_one_answer = λ κs words entries root cell. exact;
    }

sum_of : ℕ → ℕ → Sum
sum_of register upto = record { register = register; upto = upto }

-- a sum of no byte has the register before the first one
empty_sum : (r : Sum) → ((s : List ℕ) → Sums s r) → r.upto ≡ 0 → r ≡ sum_of all_ones 0
unfolding bytes_in sum_of
empty_sum r sums e = ap₂ sum_of (sums [] ∙ ap (λ (k : ℕ). bytes_in all_ones (take k [])) e) e

pub pieces_helpers : PiecesHelpers
unfolding sum_of
pieces_helpers =
    record {
      pieces_none_one_answer = λ κs.
          record { contract = λ r p. empty_sum r p.0 p.1; one_answer = λ r s p q. one_answer (empty_sum r p.0 p.1) (empty_sum s q.0 q.1) };
      pieces_finish_one_answer = λ κs sum bytes end. exact;
    }

-- an ID that is live once has one link
one_link : (rows : List ℕ) (n id : ℕ) → Once rows n → {u v : ℕ} → Finds rows n id u → Finds rows n id v → u ≡ v
one_link rows n id once {u} {v} (found p q l e) (found p' q' l' e') = go (ltb u v) (ltb v u) refl refl
  where
    go : (a b : Bool) → ltb u v ≡ a → ltb v u ≡ b → u ≡ v
    go true b f g = absurd (once u v p (ltb-true u v f) q' l l' (e ∙ sym e'))
    go false true f g = absurd (once v u p' (ltb-true v u g) q l' l (e' ∙ sym e))
    go false false f g = omega (arith, ltb-false u v f, ltb-false v u g)
one_link rows n id once {u} (found p q l e) (none absent) = absurd (absent u p q l e)
one_link rows n id once {u} {v} (none absent) (found p q l e) = absurd (absent v p q l e)
one_link rows n id once (none a) (none b) = refl

place_of : ℕ → ℕ → Place
place_of link cell = record { link = link; cell = cell }

one_place : (rows : List ℕ) (n id cell : ℕ) → Once rows n → (r s : Place) → Finds rows n id r.link → Finds rows n id s.link → r.cell ≡ cell → s.cell ≡ cell → r ≡ s
unfolding place_of
one_place rows n id cell once r s a b e f = ap₂ place_of (one_link rows n id once a b) (one_answer e f)

pub tree_helpers : TreeHelpers
tree_helpers =
    record {
      tree_find_contract = λ κs words entries tree id r p. record { finds = p.0; cell_is = p.1 };
      tree_find_one_answer = λ words entries tree id grown r s m n.
          one_place (plain_rows words) tree.count id (cell_of tree words entries id) grown.once r s m.finds n.finds m.cell_is n.cell_is;
      tree_finish_one_answer = λ κs words tree. exact_after;
    }
