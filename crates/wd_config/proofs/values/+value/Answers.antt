use Rattle.std.proofs.Common.{◌≡◌, ◌<◌, ℕ, List, length, Option, Some, option_map, Ok, Err, Bor, refl, sym, ap, subst, ◌∙◌, arith, rules}
use Rattle.std.proofs.lemmas.Result.{err_from_is_err_and}
use Rattle.wd_config.specs.Build.{built}
use Rattle.wd_config.specs.declared.items.Entry.{Entry}
use Rattle.wd_config.specs.Reading.{Comes, along, done, given, ◌>>=◌}
use Rattle.wd_config.specs.Scope.{context}
use Rattle.capnp_text.specs.declared.tree.Field.{Field}
use Rattle.capnp_text.specs.declared.tree.Value.{Value}
use Rattle.capnp_text.specs.Lexed.{Every}
use Rattle.wd_config.specs.declared.schema.Shape.{Shape}
use Rattle.wd_config.specs.Deep.{deep, list_deep, struct_deep}
use Rattle.wd_config.specs.Room.{Small}
use Rattle.wd_config.specs.Sound.{Sound, SoundFields, SoundItems}
use Rattle.wd_config.specs.Values.{Reader, value_item, listed, structured, place_of, as_list, as_struct, item_shape, item_step, field_step}
use Rattle.wd_config.proofs.Comes.{gives_comes}
use Rattle.wd_config.proofs.Along.{Leads, leads_same, loop_end, loop_stops, loop_more}
use Rattle.wd_config.proofs.DeepLaws.{before_last, field_deep, item_deep, less_deep}
use Rattle.wd_config.proofs.RoomLaws.{in_place_small, struct_each}
use Rattle.wd_config.proofs.SoundLaws.{built_sound, fields_more, fields_none, items_more, items_sound}
use Rattle.wd_config.proofs.ValueLaws.{value_comes, value_stops, field_refused, field_stops, field_reads, item_stops, item_reads, moved}
use Rattle.wd_config.proofs.values.+value.Goals as goal

pub field-returns-in_err-slot-clause-reads : goal.field-returns-in_err-slot-clause-reads
field-returns-in_err-slot-clause-reads g t c =
    let read = value_item c.args.levels (context c.args.scope.now (g.F.Files.told c.args.files.now)) c.args.active.now in
    let p = err_from_is_err_and c.from_residual.result c.from_residual.ensures.1 in
    rw (p.1, p.2) (field_refused read c.args.taken.now c.args.kind c.args.entries c.args.field.now c.in_err-slot.field-0.0 c.in_err-slot.ensures)

pub field-returns-in_err-item-clause-reads : goal.field-returns-in_err-item-clause-reads
field-returns-in_err-item-clause-reads g t c =
    let read = value_item c.args.levels (context c.args.scope.now (g.F.Files.told c.args.files.now)) c.args.active.now in
    let p = err_from_is_err_and c.from_residual-in_err-item.result c.from_residual-in_err-item.ensures.1 in
    rw (p.1, p.2) (field_stops read c.args.taken.now c.args.kind c.args.entries c.args.field.now (c.in_ok-slot.slot, c.in_ok-slot.shape) c.in_err-item.field-0.0 c.in_ok-slot.ensures c.in_err-item.ensures.reads)

pub field-returns-clause-reads : goal.field-returns-clause-reads
field-returns-clause-reads g t c =
    let read = value_item c.args.levels (context c.args.scope.now (g.F.Files.told c.args.files.now)) c.args.active.now in
    field_reads read c.args.taken.now c.args.kind c.args.entries c.args.field.now (c.in_ok-slot.slot, c.in_ok-slot.shape) c.in_ok-item.item c.in_ok-more.more c.in_ok-slot.ensures c.in_ok-item.ensures.reads c.in_ok-more.ensures

pub field-returns-clause-sound : goal.field-returns-clause-sound
field-returns-clause-sound g t c = λ h.
    subst (SoundFields c.args.taken.now c.args.kind) (sym c.in_ok-more.ensures)
    (fields_more c.args.taken.now c.args.kind c.args.entries c.args.field.now.name c.in_ok-slot.slot c.in_ok-slot.shape c.in_ok-item.item c.in_ok-slot.ensures c.in_ok-item.ensures.sound h)

pub item-returns-in_err-item-clause-reads : goal.item-returns-in_err-item-clause-reads
item-returns-in_err-item-clause-reads g t c =
    let read = value_item c.args.levels (context c.args.scope.now (g.F.Files.told c.args.files.now)) c.args.active.now in
    let p = err_from_is_err_and c.from_residual.result c.from_residual.ensures.1 in
    rw (p.1, p.2) (item_stops read c.args.label.now c.args.kind c.args.list c.args.value.now c.item_shape-shape.result c.in_err-item.field-0.0 c.item_shape-shape.ensures c.in_err-item.ensures.reads)

pub item-returns-clause-reads : goal.item-returns-clause-reads
item-returns-clause-reads g t c =
    let read = value_item c.args.levels (context c.args.scope.now (g.F.Files.told c.args.files.now)) c.args.active.now in
    item_reads read c.args.label.now c.args.kind c.args.list c.args.value.now c.item_shape-shape.result c.in_ok-item.item c.in_ok-more.more c.item_shape-shape.ensures c.in_ok-item.ensures.reads c.in_ok-more.ensures

pub item-returns-clause-sound : goal.item-returns-clause-sound
item-returns-clause-sound g t c = λ n h.
    subst (SoundItems c.args.kind n) (sym c.in_ok-more.ensures)
    (items_more c.args.kind n c.args.list c.in_ok-item.item (subst (λ x. Sound c.args.list.taken x c.in_ok-item.item) c.item_shape-shape.ensures c.in_ok-item.ensures.sound) h)

pub listed-returns-in_err-list-clause-reads : goal.listed-returns-in_err-list-clause-reads
listed-returns-in_err-list-clause-reads g t c =
    let read = value_item c.args.levels (context c.args.scope.now (g.F.Files.told c.args.files.now)) c.args.active.now in
    let here = value_item c.args.levels (context c.args.scope.now (g.F.Files.told c.loop-first.files)) c.loop-first.active in
    let same : here ≡ read = moved c.args.levels c.args.scope.now (g.F.Files.told c.loop-first.files) (g.F.Files.told c.args.files.now) c.loop-first.active c.args.active.now c.loop-first.invariant.told c.loop-first.invariant.same in
    let p = err_from_is_err_and c.from_residual.result c.from_residual.ensures.1 in
    rw (p.1, p.2) (loop_stops (item_step read c.args.label.now c.args.kind) c.loop-first.list c.loop-first.rest.now c.in-Some-split_first.first.now c.in-Some-split_first.more.now (λ made. done made.items) (listed read c.args.label.now c.args.kind (place_of c.args.value.now) (as_list c.args.value.now)) c.in_err-list.field-0.0
    c.loop-first.invariant.leads c.in-Some-split_first.ensures.cases.0 (subst (λ (r : Reader). Comes (item_step r c.args.label.now c.args.kind c.loop-first.list c.in-Some-split_first.first.now) (Err c.in_err-list.field-0.0)) same c.in_err-list.ensures.reads))

pub listed-loop-first-preserved : goal.listed-loop-first-preserved
listed-loop-first-preserved g t c =
    let read = value_item c.args.levels (context c.args.scope.now (g.F.Files.told c.args.files.now)) c.args.active.now in
    let here = value_item c.args.levels (context c.args.scope.now (g.F.Files.told c.loop-first.files)) c.loop-first.active in
    let same : here ≡ read = moved c.args.levels c.args.scope.now (g.F.Files.told c.loop-first.files) (g.F.Files.told c.args.files.now) c.loop-first.active c.args.active.now c.loop-first.invariant.told c.loop-first.invariant.same in
    record {
      same = c.in_ok-list.ensures.same ∙ c.loop-first.invariant.same;
      told = c.in_ok-list.ensures.tells ∙ c.loop-first.invariant.told;
      later = omega (arith, c.in_ok-list.ensures.later, c.loop-first.invariant.later);
      leads = loop_more (item_step read c.args.label.now c.args.kind) c.loop-first.list c.in_ok-list.list c.loop-first.rest.now c.in-Some-split_first.first.now c.in-Some-split_first.more.now (λ made. done made.items) (listed read c.args.label.now c.args.kind (place_of c.args.value.now) (as_list c.args.value.now))
          c.loop-first.invariant.leads c.in-Some-split_first.ensures.cases.0 (subst (λ (r : Reader). Comes (item_step r c.args.label.now c.args.kind c.loop-first.list c.in-Some-split_first.first.now) (Ok c.in_ok-list.list)) same c.in_ok-list.ensures.reads);
      sound = c.in_ok-list.ensures.sound (length c.in-Some-split_first.more.now) (subst (λ (vs : List Value). SoundItems c.args.kind (length vs) c.loop-first.list) c.in-Some-split_first.ensures.cases.0 c.loop-first.invariant.sound);
      small = (subst (Every Small) c.in-Some-split_first.ensures.cases.0 c.loop-first.invariant.small).1;
    }

pub listed-returns-clause-sound : goal.listed-returns-clause-sound
listed-returns-clause-sound g t c = λ taken. items_sound taken c.args.kind (length c.loop-first.rest.now) c.loop-first.list c.loop-first.invariant.sound

pub listed-returns-clause-reads : goal.listed-returns-clause-reads
listed-returns-clause-reads g t c =
    let read = value_item c.args.levels (context c.args.scope.now (g.F.Files.told c.args.files.now)) c.args.active.now in
    loop_end (item_step read c.args.label.now c.args.kind) c.loop-first.list c.loop-first.rest.now (λ made. done made.items) (listed read c.args.label.now c.args.kind (place_of c.args.value.now) (as_list c.args.value.now)) (Ok c.loop-first.list.items) c.loop-first.invariant.leads c.in_default-split_first.ensures.cases refl

pub structured-returns-in_err-entries-clause-reads : goal.structured-returns-in_err-entries-clause-reads
structured-returns-in_err-entries-clause-reads g t c =
    let read = value_item c.args.levels (context c.args.scope.now (g.F.Files.told c.args.files.now)) c.args.active.now in
    let here = value_item c.args.levels (context c.args.scope.now (g.F.Files.told c.loop-first.files)) c.loop-first.active in
    let same : here ≡ read = moved c.args.levels c.args.scope.now (g.F.Files.told c.loop-first.files) (g.F.Files.told c.args.files.now) c.loop-first.active c.args.active.now c.loop-first.invariant.told c.loop-first.invariant.same in
    let p = err_from_is_err_and c.from_residual.result c.from_residual.ensures.1 in
    rw (p.1, p.2) (loop_stops (field_step read c.args.taken.now c.args.kind) c.loop-first.entries c.loop-first.rest.now c.in-Some-split_first.first.now c.in-Some-split_first.more.now (λ es. given (built c.args.kind c.in-Some.place es)) (structured read (context c.args.scope.now (g.F.Files.told c.args.files.now)) c.args.taken.now c.args.label.now c.args.kind c.args.value.now (as_struct c.args.value.now)) c.in_err-entries.field-0.0
    c.loop-first.invariant.leads c.in-Some-split_first.ensures.cases.0 (subst (λ (r : Reader). Comes (field_step r c.args.taken.now c.args.kind c.loop-first.entries c.in-Some-split_first.first.now) (Err c.in_err-entries.field-0.0)) same c.in_err-entries.ensures.reads))

pub structured-loop-first-init : goal.structured-loop-first-init
structured-loop-first-init g t c =
    let con = context c.args.scope.now (g.F.Files.told c.args.files.now) in
    let read = value_item c.args.levels con c.args.active.now in
    let whole = λ (o : Option (ℕ × List Field)). structured read con c.args.taken.now c.args.label.now c.args.kind c.args.value.now o in
    let fields : as_struct c.args.value.now ≡ Some (c.in-Some.place, c.in-Some.fields.now) = sym c.as_struct.ensures ∙ ap (option_map (λ (e : ℕ × Bor (List Field)). (e.0, e.1.now))) c.in-Some.is in
    record {
      same = refl;
      told = refl;
      later = omega arith;
      leads = subst (λ (es : List Entry). Leads (whole (as_struct c.args.value.now)) (along (field_step read c.args.taken.now c.args.kind) es c.in-Some.fields.now >>= λ made. given (built c.args.kind c.in-Some.place made))) (sym c.new-entries.ensures)
          (leads_same _ _ (ap whole fields));
      sound = subst (SoundFields c.args.taken.now c.args.kind) (sym c.new-entries.ensures) (fields_none c.args.taken.now c.args.kind);
      small = struct_each c.args.value.now c.in-Some.place c.in-Some.fields.now (sym fields) c.requires.small;
    }

pub structured-loop-first-preserved : goal.structured-loop-first-preserved
structured-loop-first-preserved g t c =
    let read = value_item c.args.levels (context c.args.scope.now (g.F.Files.told c.args.files.now)) c.args.active.now in
    let here = value_item c.args.levels (context c.args.scope.now (g.F.Files.told c.loop-first.files)) c.loop-first.active in
    let same : here ≡ read = moved c.args.levels c.args.scope.now (g.F.Files.told c.loop-first.files) (g.F.Files.told c.args.files.now) c.loop-first.active c.args.active.now c.loop-first.invariant.told c.loop-first.invariant.same in
    record {
      same = c.in_ok-entries.ensures.same ∙ c.loop-first.invariant.same;
      told = c.in_ok-entries.ensures.tells ∙ c.loop-first.invariant.told;
      later = omega (arith, c.in_ok-entries.ensures.later, c.loop-first.invariant.later);
      leads = loop_more (field_step read c.args.taken.now c.args.kind) c.loop-first.entries c.in_ok-entries.entries c.loop-first.rest.now c.in-Some-split_first.first.now c.in-Some-split_first.more.now (λ es. given (built c.args.kind c.in-Some.place es)) (structured read (context c.args.scope.now (g.F.Files.told c.args.files.now)) c.args.taken.now c.args.label.now c.args.kind c.args.value.now (as_struct c.args.value.now))
          c.loop-first.invariant.leads c.in-Some-split_first.ensures.cases.0 (subst (λ (r : Reader). Comes (field_step r c.args.taken.now c.args.kind c.loop-first.entries c.in-Some-split_first.first.now) (Ok c.in_ok-entries.entries)) same c.in_ok-entries.ensures.reads);
      sound = c.in_ok-entries.ensures.sound c.loop-first.invariant.sound;
      small = (subst (Every (λ (f : Field). Small f.value)) c.in-Some-split_first.ensures.cases.0 c.loop-first.invariant.small).1;
    }

pub structured-returns-clause-reads : goal.structured-returns-clause-reads
structured-returns-clause-reads g t c =
    let read = value_item c.args.levels (context c.args.scope.now (g.F.Files.told c.args.files.now)) c.args.active.now in
    loop_end (field_step read c.args.taken.now c.args.kind) c.loop-first.entries c.loop-first.rest.now (λ es. given (built c.args.kind c.in-Some.place es)) (structured read (context c.args.scope.now (g.F.Files.told c.args.files.now)) c.args.taken.now c.args.label.now c.args.kind c.args.value.now (as_struct c.args.value.now)) c.built.result c.loop-first.invariant.leads c.in_default-split_first.ensures.cases (gives_comes (built c.args.kind c.in-Some.place c.loop-first.entries) c.built.result c.built.ensures)

pub structured-returns-clause-sound : goal.structured-returns-clause-sound
structured-returns-clause-sound g t c = built_sound c.args.taken.now c.args.kind c.in-Some.place c.loop-first.entries c.built.result c.loop-first.invariant.sound c.built.ensures

pub value_item-returns-in_err-value-clause-reads : goal.value_item-returns-in_err-value-clause-reads
value_item-returns-in_err-value-clause-reads g t c =
    let p = err_from_is_err_and c.from_residual.result c.from_residual.ensures.1 in
    rw (p.1, p.2) (value_stops c.args.levels (context c.args.scope.now (g.F.Files.told c.args.files.now)) c.args.active.now c.args.taken.now c.args.label.now c.args.shape c.args.value.now c.in_err-value.field-0.0 (omega (arith, c.requires.levels)) c.in_err-value.ensures.value)

pub value_item-returns-in_err-item-clause-reads : goal.value_item-returns-in_err-item-clause-reads
value_item-returns-in_err-item-clause-reads g t c =
    let p = err_from_is_err_and c.from_residual-in_err-item.result c.from_residual-in_err-item.ensures.1 in
    rw (p.1, p.2) (value_comes c.args.levels (context c.args.scope.now (g.F.Files.told c.args.files.now)) c.args.active.now c.in_place.new.active c.args.taken.now c.args.label.now c.args.shape c.args.value.now c.in_ok-value.value.now (Err c.in_err-item.field-0.0) (omega (arith, c.requires.levels)) c.in_ok-value.ensures.value c.in_err-item.ensures.reads)

pub value_item-returns-clause-reads : goal.value_item-returns-clause-reads
value_item-returns-clause-reads g t c =
    value_comes c.args.levels (context c.args.scope.now (g.F.Files.told c.args.files.now)) c.args.active.now c.in_place.new.active c.args.taken.now c.args.label.now c.args.shape c.args.value.now c.in_ok-value.value.now (Ok c.in_ok-item.item) (omega (arith, c.requires.levels)) c.in_ok-value.ensures.value c.in_ok-item.ensures.reads

pub value_item-shaped-requires : goal.value_item-shaped-requires
value_item-shaped-requires g t c =
    let small = in_place_small c.args.scope.now.file.now c.args.scope.now.constants.now c.args.active.now c.args.value.now c.in_place.new.active c.in_ok-value.value.now c.requires.file c.requires.small c.in_ok-value.ensures.value in
    let levels = before_last (deep c.args.shape) c.args.levels c.requires.levels in
    search (rules, small, levels)

pub field-value_item-requires : goal.field-value_item-requires
field-value_item-requires g t c =
    let levels = less_deep (deep c.in_ok-slot.shape) (struct_deep c.args.kind) c.args.levels
    (field_deep c.args.kind c.args.entries c.args.field.now.name c.in_ok-slot.slot c.in_ok-slot.shape c.in_ok-slot.ensures) c.requires.levels in
    search (rules, levels)
