-- The examples, by computation.
use Rattle.std.proofs.Common.{refl, inl, inr, arith}
use Rattle.model.specs.Shaping.{ends, stops, misses, hits}
use Rattle.model.specs.Examples.{FurtherExamples}

pub further : FurtherExamples
further =
    record {
      empty = (_, omega arith, inl (_, ends refl refl, refl), refl);
      ligates = (_, omega arith, inl (_, hits refl refl (misses refl refl (ends refl refl)), refl), refl);
      passes_over_the_mark = (_, omega arith, inl (_, hits refl refl (ends refl refl), refl), refl);
      line_alone = (_, omega arith, inl (_, hits refl refl (ends refl refl), refl), refl);
      tied_line_alone = (_, omega arith, inl (_, misses refl refl (ends refl refl), refl), refl);
      record_runs = (_, omega arith, inl (_, misses refl refl (hits refl refl (ends refl refl)), refl), refl);
      limit_spent = inr (omega arith, inr (_, misses refl refl (stops refl refl refl), refl));
      match_without_record = (_, omega arith, inl (_, misses refl refl (hits refl refl (ends refl refl)), refl), refl);
      next_rule = (_, omega arith, inl (_, hits refl refl (ends refl refl), refl), refl);
      growing = (_, omega arith, inl (_, hits refl refl (ends refl refl), refl), refl);
      room_spent = inr (omega arith, inr (_, stops refl refl refl, refl));
      goes_backward = (_, omega arith, inl (_, refl, refl), refl);
      lookahead_ties = (_, omega arith, inl (_, hits refl refl (hits refl refl (misses refl refl (ends refl refl))), refl), refl);
      nearest_first = (_, omega arith, inl (_, misses refl refl (misses refl refl (hits refl refl (ends refl refl))), refl), refl);
      not_text_order = (_, omega arith, inl (_, misses refl refl (misses refl refl (misses refl refl (ends refl refl))), refl), refl);
      ties_passed_over = (_, omega arith, inl (_, hits refl refl (ends refl refl), refl), refl);
      ties_passed_over_before = (_, omega arith, inl (_, misses refl refl (misses refl refl (hits refl refl (ends refl refl))), refl), refl);
      mark_in_the_way = (_, omega arith, inl (_, misses refl refl (misses refl refl (misses refl refl (ends refl refl))), refl), refl);
      passed_over_fails = (_, omega arith, inl (_, misses refl refl (ends refl refl), refl), refl);
      passed_over_record_fails = (_, omega arith, inl (_, hits refl refl (ends refl refl), refl), refl);
      merge_has_lower_bound = (_, omega arith, inl (_, misses refl refl (hits refl refl (ends refl refl)), refl), refl);
      ligature_over_mark = (_, omega arith, inl (_, hits refl refl (misses refl refl (ends refl refl)), refl), refl);
      merges_to_the_last = (_, omega arith, inl (_, hits refl refl (ends refl refl), refl), refl);
      merges_the_last_cluster = (_, omega arith, inl (_, hits refl refl (ends refl refl), refl), refl);
      stands_at_the_first = (_, omega arith, inl (_, hits refl refl (ends refl refl), refl), refl);
      grows_positions = (_, omega arith, inl (_, hits refl refl (ends refl refl), refl), refl);
      removes_input = (_, omega arith, inl (_, hits refl refl (misses refl refl (ends refl refl)), refl), refl);
      removes_two = (_, omega arith, inl (_, hits refl refl (ends refl refl), refl), refl);
      ligature_inside = (_, omega arith, inl (_, hits refl refl (ends refl refl), refl), refl);
      told_to_all = (_, omega arith, inl (_, hits refl refl (ends refl refl), refl), refl);
      told_in_order = (_, omega arith, inl (_, hits refl refl (ends refl refl), refl), refl);
      grows_outside_the_list = (_, omega arith, inl (_, hits refl refl (ends refl refl), refl), refl);
      reaches_past_the_end = (_, omega arith, inl (_, hits refl refl (hits refl refl (hits refl refl (ends refl refl))), refl), refl);
      end_moves_along = (_, omega arith, inl (_, hits refl refl (hits refl refl (ends refl refl)), refl), refl);
      index_past_the_list = (_, omega arith, inl (_, hits refl refl (ends refl refl), refl), refl);
      first64 = (_, omega arith, inl (_, hits refl refl (ends refl refl), refl), refl);
      depth_six = (_, omega arith, inl (_, hits refl refl (ends refl refl), refl), refl);
      no_backward_record = (_, omega arith, inl (_, hits refl refl (ends refl refl), refl), refl);
      seven_before_eight = inr (omega arith, inr (_, stops refl refl refl, refl));
      fills = (_, omega arith, inl (_, hits refl refl (ends refl refl), refl), refl);
      refused_inside = inr (omega arith, inr (_, stops refl refl refl, refl));
      first_run_too_long = inl (omega arith, refl);
      in_order = (_, omega arith, inl (_, hits refl refl (misses refl refl (ends refl refl)), inl (_, hits refl refl (hits refl refl (ends refl refl)), refl)), refl);
      from_the_last = (_, omega arith, inl (_, refl, refl), refl);
      fonts_glyph = (_, omega arith, inl (_, hits refl refl (ends refl refl), refl), refl);
      alternate_of_the_entry = (_, omega arith, inl (_, hits refl refl (ends refl refl), refl), refl);
      flag2 = refl;
      flag4 = refl;
      other_bits = refl;
      flag8 = refl;
      flag16 = refl;
      another_set = refl;
      missing_set = refl;
      class1 = refl;
      class2 = refl;
      class3 = refl;
      class128 = refl;
      most = refl;
      least = refl;
      apart = refl;
      text_too_long = refl;
      run_too_long = refl;
      limit_too_high = refl;
      marks_too_short = refl;
      plan_too_long = refl;
      lookup_repeated = refl;
      lookups_fall = refl;
      lookup_missing = refl;
      alternate_0 = refl;
      six_before_five = refl;
    }
