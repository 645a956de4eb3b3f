-- Every definition of this layer and of those below it opened, for worked examples by computation: a proof says `unfolding convert-opened`.
use Rattle.convert.specs.Answers.{seek, first_from, is_stem_text, is_card_number, garbled, ungrammatical, is_version_line, only_uri, misused, second_from, emptied, raw_lines, line_tests, fitted, lines_of, convert_lines, convert_card, card_to_json, convert_model, json_to_card}
use Rattle.convert.specs.Carry.{carried_raw, carried_text, carried_param, carried_as, carried_maps, carried_kept, apart, apart_parts, carried}
use Rattle.convert.specs.Classify.{is_derived, full_class, parts_class, member_name, member_value, member_class, types_from, entry_of, entry_class, classify, classed_after, classed}
use Rattle.convert.specs.FromCard.{kept_line, gathered, in_map, with_keys, maps_from, made_uid, card_of_classed, card_of_lines}
use Rattle.convert.specs.FromJson.{only_members, component_in, by_kind, name_from, flags_from, unit_from, organization_from, content_from, entry_members, entry_from, map_from, kept_from, kept_as_line, kept_stands, ids_from, seen_in, standing, card_from_members, card_from_json}
use Rattle.convert.specs.Keys.{numbered, fresh_from, fresh, keys_after, keys}
use Rattle.convert.specs.Model.{has_parts}
use Rattle.convert.specs.NormalCard.{renewed, part_texts, name_values, name_text, org_text, tel_number, entry_value, type_form, value_form, entry_form, kept_form, section, entry_forms, map_forms, name_strings, derived_form, normal_lines, normal_card}
use Rattle.convert.specs.NormalJson.{is_component, components_form, name_form, flags_form, is_unit, content_form, entry_tree, map_tree, params_form, members_form, normal_tree, normal_json}
use Rattle.convert.specs.Pointer.{pointed_from, pointed, pointer}
use Rattle.convert.specs.Table.{in_order, position, slot_from, slot_of}
use Rattle.convert.specs.ToCard.{derived_line, full_line, entry_line, maps_lines, member_line, card_lines, print_card}
use Rattle.convert.specs.ToJson.{components_of, name_json, content_json, flags_json, entry_json, maps_json, kept_json, members_json, print_json}
use Rattle.convert.specs.Value.{is_key_text, is_pref, organized, read_as, takes_type, is_tel_uri, write_as, written_type, part_values, without, own_parts, read_parts, written_parts, write_parts}
use Rattle.text.proofs.Opened.{text-opened}
use Rattle.json_text.proofs.Opened.{json-opened}
use Rattle.line.proofs.Opened.{line-opened}

unfoldable pub convert-opened : Unit {0}
unfolding seek first_from is_stem_text is_card_number garbled ungrammatical is_version_line only_uri misused second_from emptied raw_lines line_tests fitted
    lines_of convert_lines convert_card card_to_json convert_model json_to_card carried_raw carried_text carried_param carried_as carried_maps carried_kept apart
    apart_parts carried is_derived full_class parts_class member_name member_value member_class types_from entry_of entry_class classify classed_after classed
    kept_line gathered in_map with_keys maps_from made_uid card_of_classed card_of_lines only_members component_in by_kind name_from flags_from unit_from
    organization_from content_from entry_members entry_from map_from kept_from kept_as_line kept_stands ids_from seen_in standing card_from_members card_from_json
    numbered fresh_from fresh keys_after keys has_parts renewed part_texts name_values name_text org_text tel_number entry_value type_form value_form entry_form
    kept_form section entry_forms map_forms name_strings derived_form normal_lines normal_card is_component components_form name_form flags_form is_unit
    content_form entry_tree map_tree params_form members_form normal_tree normal_json pointed_from pointed pointer in_order position slot_from slot_of
    derived_line full_line entry_line maps_lines member_line card_lines print_card components_of name_json content_json flags_json entry_json maps_json kept_json
    members_json print_json is_key_text is_pref organized read_as takes_type is_tel_uri write_as written_type part_values without own_parts read_parts written_parts
    write_parts text-opened json-opened line-opened
convert-opened = tt
