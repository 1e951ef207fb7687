mod OpenAndLast
