mod SaidBefore
