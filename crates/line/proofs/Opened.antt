-- Every definition of this layer and of those below it opened, for worked examples by computation: a proof says `unfolding line-opened`.
use Rattle.line.specs.Class.{is_name, is_lower_name, is_quotable, is_bare, is_control, is_blank, is_key, is_stem}
use Rattle.line.specs.Grammar.{word, param_value, value_turn, parameter, param_turn, after_name, line_reader, value_count, fits, is_frame_name, accepted, read_line}
use Rattle.line.specs.Params.{named, values_named, lacking, only_named, value_type, besides_value, merged}
use Rattle.line.specs.Physical.{by_lf, without_cr, physical, lacks_lf, size_of, is_begin, is_end, up_to_end, framed}
use Rattle.line.specs.Text.{escaped, text_from, read_text, split_from, split_text, escape, write_text}
use Rattle.line.specs.Unfold.{rest, unfold'}
use Rattle.line.specs.Write.{write_value, write_values, write_params, write_group, write_line, width, breaks, fold_from, fold, write_lines, write_card}
use Rattle.text.proofs.Opened.{text-opened}

unfoldable pub line-opened : Unit {0}
unfolding is_name is_lower_name is_quotable is_bare is_control is_blank is_key is_stem word param_value value_turn parameter param_turn after_name line_reader
    value_count fits is_frame_name accepted read_line named values_named lacking only_named value_type besides_value merged by_lf without_cr physical lacks_lf size_of
    is_begin is_end up_to_end framed escaped text_from read_text split_from split_text escape write_text rest unfold' write_value write_values write_params write_group
    write_line width breaks fold_from fold write_lines write_card text-opened
line-opened = tt
